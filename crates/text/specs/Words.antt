-- Document 01, "Lines": single spaces, no others. Spaces and brackets part the words of a line.
use Rattle.std.specs.Prelude.{ℕ, zero, suc, Bool, true, false, List, [], ◌∷◌, take, eqb, cond}

-- neither ` ` nor `(` nor `)`
unfoldable pub in_word : ℕ → Bool
in_word b = cond (eqb b 32) false (cond (eqb b 40) false (cond (eqb b 41) false true))

-- how many bytes stand before the first space or bracket
unfoldable pub run : List ℕ → ℕ
run [] = zero
run (b ∷ s) = cond (in_word b) (suc (run s)) zero

-- those bytes
unfoldable pub word : List ℕ → List ℕ
word s = take (run s) s
