-- No answer's line and no sheet is longer than its room. A decimal has at most 20 digits whatever the number, so a length asks for no range.
use Rattle.std.specs.Prelude.{ℕ, ◌≤◌, List, ◌≡◌, length}
use Rattle.alike.specs.Invariant.{Invariant}
use Rattle.script_answer.specs.Answers.{answer_line}
use Rattle.script_sheet.specs.Sheets.{sheet_text}
use Rattle.head_driver.specs.declared.Answer.{Answer}
use Rattle.head_driver.specs.declared.Driver.{Driver}
use Rattle.sheet_rules.specs.Form.{SheetForm}
use Rattle.sheet_rules.specs.Rules.{MeetsRules}

-- An answer's line with its line feed: 278 bytes, those of `heads`, at most,
abbrev pub AnswerLength : Type 0
AnswerLength = (a : Answer) → length (answer_line a) ≤ 278

-- and so 512.
abbrev pub AnswerRoom : Type 0
AnswerRoom = (a : Answer) → length (answer_line a) ≤ 512

-- The sheet of any sixteen waiters and any lifecycle: 2,694 bytes at most,
abbrev pub SheetLength : Type 0
SheetLength = (d : Driver) → length d.waiters ≡ 16 → length (sheet_text d) ≤ 2694

-- and so 4,096 for every driver that keeps the invariant.
abbrev pub SheetRoom : Type 0
SheetRoom = (d : Driver) → Invariant d → length (sheet_text d) ≤ 4096

-- No text from which a box is put back has more bytes.
abbrev pub TakenLength : Type 0
TakenLength = (text : List ℕ) (d : Driver) → SheetForm text d → MeetsRules d → length text ≤ 2694
