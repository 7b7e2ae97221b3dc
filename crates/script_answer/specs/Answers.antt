-- Document 01, "Calls and answers", "Turned away by the input": an answer's line as it stands in the caller's buffer.
use Rattle.std.specs.Prelude.{ℕ, List, [], ◌++◌}
use Rattle.script_value.specs.Lines.{answer_text}
use Rattle.text.specs.Ascii.{ascii}
use Rattle.head_driver.specs.declared.Answer.{Answer}
use Rattle.script_answer.specs.declared.LineAnswer.{LineAnswer}

-- every answer line ends with a line feed
unfoldable pub answer_line : Answer → List ℕ
answer_line a = answer_text a ++ ascii "\n"

-- refusals 1, 4 and, of Job 2, 5 are `(refused N)`; a sheet has no answer line
unfoldable pub line_text : LineAnswer → List ℕ
line_text (LineAnswer.Said a) = answer_line a
line_text LineAnswer.NoCall = ascii "(refused 1)\n"
line_text LineAnswer.SheetTooShort = ascii "(refused 4)\n"
line_text LineAnswer.SheetNotTaken = ascii "(refused 5)\n"
line_text (LineAnswer.Sheet n) = []
