-- Document 02, Job 2: "Every sheet a driver wrote is taken"; "rebuild a driver that writes that same sheet"; "The sheet rule now also
-- speaks of drivers built this way."
use Rattle.std.specs.Prelude.{ℕ, ◌≤◌, List, ◌↔◌, ◌≡◌, length}
use Rattle.alike.specs.Canon.{canon}
use Rattle.alike.specs.Invariant.{Invariant}
use Rattle.head_driver.specs.New.{new}
use Rattle.head_driver.specs.declared.Driver.{Driver}
use Rattle.driver.specs.declared.Turn.{Turn}
use Rattle.head_driver.specs.declared.Answer.{Answer}
use Rattle.script_answer.specs.declared.LineAnswer.{LineAnswer}
use Rattle.rebuild.specs.Rebuilds.{Rebuilds, Taken}
use Rattle.script_sheet.specs.Sheets.{sheet_text}
use Rattle.rules.specs.Runs.{Entry, after, turn_at}
use Rattle.rules.specs.Sheets.{sheet_into}
use Rattle.rules.specs.Statements.{CountersBelow, SameAnswers}

-- how a driver was brought about: it is new, or a line left it, or a rebuild did, from whatever bytes, taken or not
pub data Brought : Driver → Type 0 where
  a_new : Brought new
  by_line : {d : Driver} → Brought d → (e : Entry) → Brought (turn_at d e).driver
  by_rebuild : {d : Driver} → Brought d → (bytes : List ℕ) (got : Turn) → Rebuilds d bytes got → Brought got.driver

-- It keeps the invariant, so lines keep it too.
abbrev pub BroughtKeep : Type 0
BroughtKeep = (d : Driver) → Brought d → Invariant d

-- Every sheet that such a driver wrote is taken.
abbrev pub EverySheetTaken : Type 0
EverySheetTaken = (d : Driver) → Brought d → Taken (sheet_text d) (canon d)

-- The rebuilt driver writes that same sheet, byte for byte.
abbrev pub WritesSameSheet : Type 0
WritesSameSheet = (sheet : List ℕ) (x : Driver) → Taken sheet x → sheet_text x ≡ sheet

-- A driver and the one rebuilt from its sheet give the same answers to every list of lines. No counter is bounded.
abbrev pub RebuiltAnswersAlike : Type 0
RebuiltAnswersAlike = (d x : Driver) → Brought d → Taken (sheet_text d) x → SameAnswers d x

-- And after every list of lines they write the same sheet.
abbrev pub RebuiltSheetsAlike : Type 0
RebuiltSheetsAlike = (d x : Driver) → Brought d → Taken (sheet_text d) x → (es : List Entry)
    → sheet_text (after d es) ≡ sheet_text (after x es)

-- what a rebuild gives of the sheet that a driver wrote: `(done)`, and a driver that writes that sheet and every later one, and answers
-- every line alike
pub record PutBackAs (d : Driver) (got : Turn) : Type 0 where
  pub done : got.answer ≡ LineAnswer.Said Answer.Done
  pub same_sheet : sheet_text got.driver ≡ sheet_text d
  pub same_answers : SameAnswers d got.driver
  pub same_later : (es : List Entry) → sheet_text (after d es) ≡ sheet_text (after got.driver es)

-- So a box is put back: what `(sheet)` wrote into 4,096 bytes or more, up to its last line feed, rebuilt on any box at hand.
abbrev pub PutBack : Type 0
PutBack = (d hand : Driver) → Brought d → (buffer : List ℕ) → 4096 ≤ length buffer → (got : Turn)
    → Rebuilds hand (sheet_into buffer d) got → PutBackAs d got

-- The sheet rule: where every counter in both drivers stands below 2^64 - 1, their sheets are equal, byte for byte, exactly when every list
-- of further lines gets the same answers.
abbrev pub BroughtRule : Type 0
BroughtRule = (d₁ d₂ : Driver) → Brought d₁ → Brought d₂ → (buffer₁ buffer₂ : List ℕ) → 4096 ≤ length buffer₁ → 4096 ≤ length buffer₂
    → CountersBelow d₁ → CountersBelow d₂
    → (sheet_into buffer₁ d₁ ≡ sheet_into buffer₂ d₂) ↔ SameAnswers d₁ d₂
