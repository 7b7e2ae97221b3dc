-- What is proved of answer lines.
use Rattle.std.specs.Prelude.{[], ◌≡◌}
use Rattle.script_answer.specs.Answers.{answer_line}
use Rattle.value_text.specs.Reads.{got}
use Rattle.text.specs.Rests.{at}
use Rattle.head_driver.specs.declared.Answer.{Answer}
use Rattle.answer_back.specs.Ranges.{AnswerFits}
use Rattle.answer_back.specs.Reads.{read_answer}

-- An answer's line is read back, all of it.
abbrev pub ReadBack : Type 0
ReadBack = (a : Answer) → AnswerFits a → read_answer (at (answer_line a)) ≡ got a (at [])

-- So two answers with one line are one.
abbrev pub Injective : Type 0
Injective = (x y : Answer) → AnswerFits x → AnswerFits y → answer_line x ≡ answer_line y → x ≡ y
