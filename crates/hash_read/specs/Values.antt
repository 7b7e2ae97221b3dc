-- The way of `hex_hash`: the values of all digits first, with the largest of them, then the numbers.
use Rattle.std.specs.Prelude.{ℕ, ◌+◌, ◌*◌, max, List, [], ◌∷◌, unwrap_or}
use Rattle.hash_text.specs.Hex.{digit_value}

-- the value of a digit; 255, which is above all of them, where there is none
unfoldable pub value_of : ℕ → ℕ
value_of b = unwrap_or (digit_value b) 255

-- the largest value of a row of bytes
unfoldable pub largest : List ℕ → ℕ
largest [] = 0
largest (b ∷ s) = max (value_of b) (largest s)

-- the number that a row of values says after the number n
unfoldable pub number_on : ℕ → List ℕ → ℕ
number_on n [] = n
number_on n (v ∷ s) = number_on (n * 16 + v) s
