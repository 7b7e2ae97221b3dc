-- What is proved of sheets.
use Rattle.std.specs.Char.{is_ascii_uppercase}
use Rattle.std.specs.List.{list_any}
use Rattle.std.specs.Prelude.{ℕ, List, Some, false, eqb, ◌↔◌, ◌≡◌}
use Rattle.alike.specs.Canon.{canon}
use Rattle.alike.specs.Invariant.{Invariant}
use Rattle.script_sheet.specs.Sheets.{sheet_text}
use Rattle.head_driver.specs.declared.Driver.{Driver}
use Rattle.sheet_rules.specs.Form.{SheetForm}
use Rattle.sheet_read.specs.Reads.{read_sheet}

-- What a sheet shows is read back from it, all of it.
abbrev pub ReadBack : Type 0
ReadBack = (d : Driver) → Invariant d → read_sheet (sheet_text d) ≡ Some (canon d)

-- So sheets are equal exactly when they show the same.
abbrev pub EqualSheets : Type 0
EqualSheets = (d₁ d₂ : Driver) → Invariant d₁ → Invariant d₂ → (sheet_text d₁ ≡ sheet_text d₂) ↔ (canon d₁ ≡ canon d₂)

-- A text reads as a driver exactly when it is in sheet form, and is that driver's lines.
abbrev pub FormRead : Type 0
FormRead = (text : List ℕ) (d : Driver) → (read_sheet text ≡ Some d) ↔ SheetForm text d

-- Document 02, Job 3: "A sheet with capitals is not in sheet form."
abbrev pub NoCapitals : Type 0
NoCapitals = (text : List ℕ) (d : Driver) → SheetForm text d → list_any is_ascii_uppercase text ≡ false

-- Document 02, Job 4: "A sheet read here ends at the first zero byte": no sheet has one, so zero bytes behind it end it.
abbrev pub NoZeros : Type 0
NoZeros = (text : List ℕ) (d : Driver) → SheetForm text d → list_any (λ b. eqb b 0) text ≡ false
