-- Which lines are calls. Document 02, Job 3: a hash on a line has digits "of either case", so several lines may be one call.
use Rattle.std.specs.Prelude.{ℕ, ◌≤◌, List, ◌↔◌, ◌≡◌, length, Some}
use Rattle.hash_text.specs.Cases.{ButForCase}
use Rattle.head_call.specs.Ranges.{Writable}
use Rattle.head_call.specs.declared.Call.{Call}
use Rattle.script_call.specs.Calls.{call}
use Rattle.script_call.specs.Texts.{call_text, sheet_call_text}
use Rattle.script_call.specs.declared.LineCall.{LineCall}

-- A line is read as a call exactly when it is that call's own text but for the case of hash digits, and the call one that a line can write.
abbrev pub CallExactly : Type 0
CallExactly = (l : List ℕ) (c : Call) → (call l ≡ Some (LineCall.Make c)) ↔ (ButForCase l (call_text c) × Writable c)

-- A line asks for the sheet exactly when it is `(sheet)`.
abbrev pub SheetExactly : Type 0
SheetExactly = (l : List ℕ) → (call l ≡ Some LineCall.Sheet) ↔ (l ≡ sheet_call_text)

-- So no line that asks for something has more than 301 bytes, and 512 suffice.
abbrev pub CallLength : Type 0
CallLength = (l : List ℕ) (q : LineCall) → call l ≡ Some q → length l ≤ 301
