-- Document 02, Job 4: "An exported call takes a call line without its line feed, a sheet buffer and an answer buffer as byte slices."
-- What the line gets is document 01's, by `turn_of`.
use Rattle.std.specs.Prelude.{ℕ, ◌-◌, ◌<◌, ◌≤◌, List, ◌++◌, ◌⊎◌, eqb, length, drop, replicate}
use Rattle.std.specs.List.{before_first}
use Rattle.driver.specs.Turns.{turn_of}
use Rattle.driver.specs.declared.Turn.{Turn}
use Rattle.head_driver.specs.New.{new}
use Rattle.head_driver.specs.declared.Answer.{Answer}
use Rattle.head_driver.specs.declared.Driver.{Driver}
use Rattle.rebuild.specs.Rebuilds.{Taken}
use Rattle.script_answer.specs.Answers.{line_text}
use Rattle.script_answer.specs.declared.LineAnswer.{LineAnswer}
use Rattle.script_call.specs.Calls.{call}
use Rattle.script_sheet.specs.Sheets.{sheet_text}

-- "A sheet read here ends at the first zero byte, or at the buffer's end."
abbrev pub sheet_in : List ℕ → List ℕ
sheet_in buffer = before_first (λ b. eqb b 0) buffer

-- "It writes the new sheet, fills the rest of the sheet buffer with zero bytes,"
abbrev pub sheet_left : List ℕ → List ℕ → List ℕ
sheet_left sheet buffer = sheet ++ replicate (length buffer - length sheet) 0

-- "and writes the answer line with a line feed. Answer bytes after that keep their content."
abbrev pub answer_left : List ℕ → List ℕ → List ℕ
answer_left line buffer = line ++ drop (length line) buffer

-- "`(sheet)` answers `(done)` here." Every other answer is the line's own.
unfoldable pub answer_here : LineAnswer → LineAnswer
answer_here (LineAnswer.Said a) = LineAnswer.Said a
answer_here LineAnswer.NoCall = LineAnswer.NoCall
answer_here LineAnswer.SheetTooShort = LineAnswer.SheetTooShort
answer_here LineAnswer.SheetNotTaken = LineAnswer.SheetNotTaken
answer_here (LineAnswer.Sheet n) = LineAnswer.Said Answer.Done

-- what a call leaves: what it returns, "0, or the refusal number where no answer line can be written", and the sheet and answer buffers
pub record Left : Type 0 where
  pub number : ℕ
  pub sheet : List ℕ
  pub answer : List ℕ

abbrev pub left : ℕ → List ℕ → List ℕ → Left
left number sheet answer = record { number = number; sheet = sheet; answer = answer }

-- what a line's turn leaves: the sheet of its driver, and its answer
abbrev pub turn_left : Turn → List ℕ → List ℕ → Left
turn_left t sheet answer = left 0 (sheet_left (sheet_text t.driver) sheet) (answer_left (line_text (answer_here t.answer)) answer)

-- What is promised of `temsroi_call`, from the line and the two buffers: "The order is 4, then 5, then document 01's. On 4 and 5 all
-- buffers keep their bytes."
pub data Calls (line sheet answer : List ℕ) : Left → Type 0 where
  -- "An answer buffer under 512 bytes is refused with 4, as a short sheet buffer is."
  too_short : (length sheet < 4096) ⊎ (length answer < 512) → Calls line sheet answer (left 4 sheet answer)
  -- Job 2: "5 for bytes not taken, tested before anything changes"
  not_taken : 4096 ≤ length sheet → 512 ≤ length answer → ((x : Driver) → ¬ Taken (sheet_in sheet) x)
      → Calls line sheet answer (left 5 sheet answer)
  -- "It reads the driver from the sheet and makes the call. .. Refusals other than 4 and 5 write all three too." So `turn_of` says what the
  -- line gets, but not what is left: "This replaces document 01's rules on bytes after the sheet and on 1 to 3, for this call only."
  made : 4096 ≤ length sheet → 512 ≤ length answer → (x : Driver) → Taken (sheet_in sheet) x
      → Calls line sheet answer (turn_left (turn_of x (call line) sheet) sheet answer)

-- Added: what is promised of `temsroi_new`, so that no host types a new driver's sheet.
pub data Begins (sheet : List ℕ) : ℕ → List ℕ → Type 0 where
  too_short : length sheet < 4096 → Begins sheet 4 sheet
  written : 4096 ≤ length sheet → Begins sheet 0 (sheet_left (sheet_text new) sheet)
