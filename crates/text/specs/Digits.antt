-- A word read digit by digit.
use Rattle.std.specs.Prelude.{ℕ, List, [], ◌∷◌, Option}

-- what the bytes say after r, where `step` says what one more does
unfoldable pub read_on : (Option ℕ → ℕ → Option ℕ) → Option ℕ → List ℕ → Option ℕ
read_on step r [] = r
read_on step r (b ∷ s) = read_on step (step r b) s
