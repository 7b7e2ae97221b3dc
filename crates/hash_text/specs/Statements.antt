-- Which words are hashes, on a line and on a sheet.
use Rattle.std.specs.Prelude.{ℕ, List, ◌↔◌, ◌≡◌, Some}
use Rattle.hash.specs.Ranges.{HashFits}
use Rattle.hash.specs.declared.Hash.{Hash}
use Rattle.hash_text.specs.Cases.{Cased}
use Rattle.hash_text.specs.LineHashes.{line_hash}
use Rattle.hash_text.specs.SheetHashes.{sheet_hash}
use Rattle.hash_text.specs.Texts.{hash_text}

-- On a line a word says a hash exactly when it is that hash's text but for the case of its digits.
abbrev pub LineHashExactly : Type 0
LineHashExactly = (w : List ℕ) (h : Hash) → (line_hash w ≡ Some h) ↔ (Cased w h × HashFits h)

-- On a sheet it does exactly when it is that hash's text.
abbrev pub SheetHashExactly : Type 0
SheetHashExactly = (w : List ℕ) (h : Hash) → (sheet_hash w ≡ Some h) ↔ ((w ≡ hash_text h) × HashFits h)
