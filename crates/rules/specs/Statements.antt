-- What is proved: demand 3 over lines, its halves, and what they rest on.
use Rattle.std.specs.Prelude.{ℕ, ◌<◌, ◌≤◌, List, ◌↔◌, ◌≡◌, length}
use Rattle.alike.specs.Invariant.{Invariant}
use Rattle.head_driver.specs.New.{new}
use Rattle.script_sheet.specs.Sheets.{sheet_text}
use Rattle.head_driver.specs.declared.Driver.{Driver}
use Rattle.rules.specs.Runs.{Entry, Further, after, answers}
use Rattle.rules.specs.Sheets.{sheet_into}

-- ---- the terms

-- a counter stands below 2^64 - 1
abbrev pub Below : ℕ → Type 0
Below n = n < 0xffff_ffff_ffff_ffff

-- every counter stands below 2^64 - 1: those on the count line, eight and then the epoch
pub record CountersBelow (d : Driver) : Type 0 where
  pub delivered : Below d.life.stats.delivered
  pub repeated : Below d.life.stats.repeated
  pub superseded : Below d.life.stats.superseded
  pub settled : Below d.life.stats.settled
  pub already_current : Below d.life.stats.already_current
  pub discarded : Below d.life.stats.discarded
  pub ready_views : Below d.life.stats.ready_views
  pub cold_views : Below d.life.stats.cold_views
  pub epoch : Below d.life.claim_epoch.0

-- the two of them that tell something by what they rise to
pub record TellingBelow (d : Driver) : Type 0 where
  pub delivered_below : Below d.life.stats.delivered
  pub epoch_below : Below d.life.claim_epoch.0

-- for every list of further lines, refused ones included and only the sheet call left out, both drivers give the same answers, one by one
abbrev pub SameAnswers : Driver → Driver → Type 0
SameAnswers d₁ d₂ = (lines : List Entry) → Further lines → answers d₁ lines ≡ answers d₂ lines

-- ---- the statements

-- What `(sheet)` writes into 4,096 bytes or more, up to its last line feed, is the driver's sheet, whatever stood in the buffer.
abbrev pub SheetIsText : Type 0
SheetIsText = (d : Driver) (buffer : List ℕ) → 4096 ≤ length buffer → sheet_into buffer d ≡ sheet_text d

-- Every line keeps the invariant, refused ones and `(sheet)` too, whatever its buffer; so every driver that lines bring from a new one has
-- it (of rebuilds too: `BroughtKeep`).
abbrev pub LinesKeep : Type 0
LinesKeep = (d : Driver) (es : List Entry) → Invariant d → Invariant (after d es)

-- ---- of drivers that keep the invariant, whether lines brought them or not

-- Equal sheets give equal answers. No counter is bounded.
abbrev pub KeptSheetsTellAnswers : Type 0
KeptSheetsTellAnswers = (d₁ d₂ : Driver) → Invariant d₁ → Invariant d₂ → sheet_text d₁ ≡ sheet_text d₂ → SameAnswers d₁ d₂

-- Equal answers give equal sheets, where delivered and epoch stand below 2^64 - 1.
abbrev pub KeptAnswersTellSheets : Type 0
KeptAnswersTellSheets = (d₁ d₂ : Driver) → Invariant d₁ → Invariant d₂ → TellingBelow d₁ → TellingBelow d₂ → SameAnswers d₁ d₂ → sheet_text d₁ ≡ sheet_text d₂

-- ---- of two drivers, each brought from a new one by a list of its own, and their sheets in two buffers of 4,096 bytes or more

-- Equal sheets give equal answers. No counter is bounded.
abbrev pub SheetsTellAnswers : Type 0
SheetsTellAnswers = (first second : List Entry) (buffer₁ buffer₂ : List ℕ) → 4096 ≤ length buffer₁ → 4096 ≤ length buffer₂
    → sheet_into buffer₁ (after new first) ≡ sheet_into buffer₂ (after new second)
    → SameAnswers (after new first) (after new second)

-- Equal answers give equal sheets, where delivered and epoch stand below 2^64 - 1.
abbrev pub AnswersTellSheets : Type 0
AnswersTellSheets = (first second : List Entry) (buffer₁ buffer₂ : List ℕ) → 4096 ≤ length buffer₁ → 4096 ≤ length buffer₂
    → TellingBelow (after new first) → TellingBelow (after new second)
    → SameAnswers (after new first) (after new second)
    → sheet_into buffer₁ (after new first) ≡ sheet_into buffer₂ (after new second)

-- The sheet rule: where every counter in both drivers stands below 2^64 - 1, their sheets are equal, byte for byte, exactly when every list of further lines gets the same answers.
abbrev pub SheetRule : Type 0
SheetRule = (first second : List Entry) (buffer₁ buffer₂ : List ℕ) → 4096 ≤ length buffer₁ → 4096 ≤ length buffer₂
    → CountersBelow (after new first) → CountersBelow (after new second)
    → (sheet_into buffer₁ (after new first) ≡ sheet_into buffer₂ (after new second)) ↔ SameAnswers (after new first) (after new second)
