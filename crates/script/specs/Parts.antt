-- A line's answer at the front of a buffer.
use Rattle.std.specs.Prelude.{ℕ, List, ◌++◌, ◌≡◌, length, drop}
use Rattle.script_answer.specs.Answers.{line_text}
use Rattle.script_answer.specs.declared.LineAnswer.{LineAnswer}
use Rattle.head_driver.specs.declared.Driver.{Driver}
use Rattle.script.specs.declared.Printed.{Printed}

-- what is written of an answer: its line, or the sheet that stands in the buffer already
unfoldable pub answer_length : LineAnswer → ℕ
answer_length (LineAnswer.Said a) = length (line_text (LineAnswer.Said a))
answer_length LineAnswer.NoCall = length (line_text LineAnswer.NoCall)
answer_length LineAnswer.SheetTooShort = length (line_text LineAnswer.SheetTooShort)
answer_length LineAnswer.SheetNotTaken = length (line_text LineAnswer.SheetNotTaken)
answer_length (LineAnswer.Sheet n) = n

-- a text at the front of a buffer, with every byte after it kept
unfoldable pub at_front : List ℕ → List ℕ → List ℕ
at_front text buffer = text ++ drop (length text) buffer

-- what is promised of an answer that is put: the buffer as it was and as it is, and how many of its bytes are the answer
pub record PutsAnswer (answer : LineAnswer) (old new : List ℕ) (r : ℕ) : Type 0 where
  pub bytes : new ≡ at_front (line_text answer) old
  pub count : r ≡ answer_length answer

-- what is promised of a line that is answered into a buffer
pub record Prints (text : List ℕ) (left : Driver) (old new : List ℕ) (r : Printed) : Type 0 where
  pub driver : r.driver ≡ left
  pub bytes : new ≡ at_front text old
  pub count : r.written ≡ length text
