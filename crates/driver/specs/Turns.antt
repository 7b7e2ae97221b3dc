-- Document 01, "Lines (added)", "Turned away by the input": a line's answer, the next driver and the sheet buffer.
use Rattle.std.specs.Prelude.{ℕ, List, [], ◌++◌, ◌≡◌, Option, Some, None}
use Rattle.head_values.specs.Said.{Said, turned_away, within}
use Rattle.head_driver.specs.Answers.{said}
use Rattle.head_step.specs.Steps.{step}
use Rattle.text.specs.Ascii.{ascii}
use Rattle.script_call.specs.Calls.{call}
use Rattle.script_sheet.specs.Sheets.{sheet_text}
use Rattle.script_value.specs.Buffers.{buffer_after, written}
use Rattle.script_value.specs.Lines.{said_text}
use Rattle.script_answer.specs.Answers.{line_text}
use Rattle.head_driver.specs.declared.Driver.{Driver}
use Rattle.head_driver.specs.declared.Reply.{Reply}
use Rattle.script_call.specs.declared.LineCall.{LineCall}
use Rattle.script_answer.specs.declared.LineAnswer.{LineAnswer}
use Rattle.driver.specs.declared.Turn.{Turn}

abbrev pub turn : Driver → LineAnswer → Turn
turn d answer = record { driver = d; answer = answer }

-- the reply of a call
unfoldable pub made : Reply → Turn
made reply = turn reply.driver (LineAnswer.Said reply.answer)

-- 4 where the sheet buffer is shorter than 4,096 bytes
unfoldable pub sheet_answer : Option ℕ → LineAnswer
sheet_answer None = LineAnswer.SheetTooShort
sheet_answer (Some n) = LineAnswer.Sheet n

-- 1 where the line is no call, and state and buffer keep every byte; `(sheet)` writes the sheet and changes nothing else; a call is made, and leaves the buffer
unfoldable pub turn_of : Driver → Option LineCall → List ℕ → Turn
turn_of d None buf = turn d LineAnswer.NoCall
turn_of d (Some LineCall.Sheet) buf = turn d (sheet_answer (written 4096 buf (sheet_text d)))
turn_of d (Some (LineCall.Make c)) buf = made (step d c)

-- bytes after the sheet keep their content
unfoldable pub sheet_after : Driver → Option LineCall → List ℕ → List ℕ
sheet_after d None buf = buf
sheet_after d (Some LineCall.Sheet) buf = buffer_after 4096 buf (sheet_text d)
sheet_after d (Some (LineCall.Make c)) buf = buf

-- what is said of a line's answer: an answer line; or a sheet, which has no answer line, and how many bytes it has
pub data LineSaid : Type 0 where
  answer : Said LineAnswer → LineSaid
  sheet : ℕ → LineSaid

-- "1 line is no call", "4 sheet buffer shorter than 4,096 bytes"; a call's answer says what `said` gives
unfoldable pub line_said : LineAnswer → LineSaid
line_said (LineAnswer.Said a) = LineSaid.answer (within LineAnswer.Said (said a))
line_said LineAnswer.NoCall = LineSaid.answer (turned_away LineAnswer.NoCall 1 [])
line_said LineAnswer.SheetTooShort = LineSaid.answer (turned_away LineAnswer.SheetTooShort 4 [])
line_said LineAnswer.SheetNotTaken = LineSaid.answer (turned_away LineAnswer.SheetNotTaken 5 [])
line_said (LineAnswer.Sheet n) = LineSaid.sheet n

-- the line that is printed of what is said
unfoldable pub said_line : LineSaid → List ℕ
said_line (LineSaid.answer s) = said_text s ++ ascii "\n"
said_line (LineSaid.sheet n) = []

-- A law, proved in `proofs/Turned`: what is said of an answer is what its line says.
abbrev pub LineSays : Type 0
LineSays = (a : LineAnswer) → line_text a ≡ said_line (line_said a)

-- what is promised of a line, the sheet buffer as it was and as it is, and the turn
pub record Takes (d : Driver) (line old new : List ℕ) (r : Turn) : Type 0 where
  pub driver : r.driver ≡ (turn_of d (call line) old).driver
  pub answer : line_said r.answer ≡ line_said (turn_of d (call line) old).answer
  pub sheet : new ≡ sheet_after d (call line) old
