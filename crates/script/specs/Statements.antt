-- That it does not matter how an input is cut into reads.
use Rattle.std.specs.Prelude.{ℕ, ◌≤◌, List, [], ◌∷◌, ◌++◌, ◌≡◌, length}
use Rattle.head_driver.specs.New.{new}
use Rattle.script.specs.Scripts.{script}
use Rattle.script.specs.Feeds.{Reading, reading, all_prints, all_taken, last_prints}

-- the input that is handed over piece by piece
unfoldable pub joined : List (List ℕ) → List ℕ
joined [] = []
joined (piece ∷ pieces) = piece ++ joined pieces

-- what is printed while it is handed over, each piece from where the piece before it left the reading, and at its end
unfoldable pub printed_in : Reading → List (List ℕ) → List ℕ
printed_in s [] = last_prints s
printed_in s (piece ∷ pieces) = all_prints s piece ++ printed_in (all_taken s piece) pieces

-- Every cutting of an input prints what the input prints, whatever the buffer for lines held before.
abbrev pub AnyCutting : Type 0
AnyCutting = (buffer : List ℕ) → 513 ≤ length buffer → (pieces : List (List ℕ)) → printed_in (reading new buffer 0) pieces ≡ script (joined pieces)
