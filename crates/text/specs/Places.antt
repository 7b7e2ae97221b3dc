-- Places of a line, and the rests that start there. No place is where reading has stopped.
use Rattle.std.specs.Prelude.{ℕ, ◌+◌, ◌≡◌, Bool, false, List, [], ◌∷◌, length, drop, eqb, leb, Option, Some, None, IfSome, cond}
use Rattle.text.specs.Words.{word}
use Rattle.text.specs.Decimals.{number}
use Rattle.text.specs.Rests.{Rest, at, stopped, Took}

-- the rest of the line from a place on
unfoldable pub here : List ℕ → Option ℕ → Rest
here l None = stopped
here l (Some i) = at (drop i l)

-- the bytes start with that one
unfoldable pub begins : ℕ → List ℕ → Bool
begins byte [] = false
begins byte (b ∷ s) = eqb b byte

-- the place after that byte, where it stands
unfoldable pub byte_passed : ℕ → List ℕ → Option ℕ → Option ℕ
byte_passed byte l None = None
byte_passed byte l (Some i) = cond (begins byte (drop i l)) (Some (i + 1)) None

-- the place n bytes on, where so many are left
unfoldable pub passed : ℕ → List ℕ → Option ℕ → Option ℕ
passed n l None = None
passed n l (Some i) = cond (leb n (length (drop i l))) (Some (i + n)) None

-- ---- a number and the place after it, or none where reading has stopped

unfoldable pub with_place : Option ℕ → ℕ → Option (ℕ × ℕ)
with_place None j = None
with_place (Some n) j = Some (n, j)

-- the number of the word at a place, and the place after the word
unfoldable pub number_from : List ℕ → Option ℕ → Option (ℕ × ℕ)
number_from l None = None
number_from l (Some i) = with_place (number (word (drop i l))) (i + length (word (drop i l)))

unfoldable pub next_place : {A : Type 0} → Option (A × ℕ) → Option ℕ
next_place None = None
next_place (Some x) = Some x.1

-- The answer is what was taken from the line's rest, and its place is where the next rest starts.
pub record ReadsFrom {A : Type 0} (l : List ℕ) (answer : Option (A × ℕ)) (took : Took A) : Type 0 where
  pub value : IfSome answer (λ x. took.value ≡ x.0)
  pub rest : took.next ≡ here l (next_place answer)
