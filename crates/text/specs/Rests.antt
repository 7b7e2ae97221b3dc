-- Reading a line from its front, with a failure that stays.
use Rattle.std.specs.Prelude.{ℕ, Bool, true, false, List, [], ◌∷◌, length, drop, eqb, leb, Option, Some, None, cond}
use Rattle.text.specs.Words.{word}
use Rattle.text.specs.Same.{same_text}
use Rattle.text.specs.Decimals.{number}

-- what is still to be read, or that reading stopped, which stays
pub data Rest : Type 0 where
  at : List ℕ → Rest
  stopped : Rest

-- what was read, and the rest
pub record Took (A : Type 0) : Type 0 where
  pub value : A
  pub next : Rest

-- ---- given texts

-- the rest after one byte
unfoldable pub after_byte : ℕ → Rest → Rest
after_byte b stopped = stopped
after_byte b (at []) = stopped
after_byte b (at (c ∷ s)) = cond (eqb c b) (at s) stopped

-- the rest after the text k
unfoldable pub after : List ℕ → Rest → Rest
after [] r = r
after (b ∷ k) r = after k (after_byte b r)

-- ---- words

-- the word that the rest starts with; none where reading has stopped
unfoldable pub word_here : Rest → List ℕ
word_here (at s) = word s
word_here stopped = []

-- the word is k
unfoldable pub says : List ℕ → Rest → Bool
says k r = same_text (word_here r) k

-- the rest after n bytes
unfoldable pub past : ℕ → Rest → Rest
past n (at s) = cond (leb n (length s)) (at (drop n s)) stopped
past n stopped = stopped

-- the rest after the word
unfoldable pub past_word : Rest → Rest
past_word r = past (length (word_here r)) r

-- nothing is left
unfoldable pub at_end : Rest → Bool
at_end (at []) = true
at_end (at (b ∷ s)) = false
at_end stopped = false

-- ---- numbers, each one word

unfoldable pub number_got : Option ℕ → Rest → Took ℕ
number_got (Some n) next = record { value = n; next = next }
number_got None next = record { value = 0; next = stopped }

unfoldable pub read_number : Rest → Took ℕ
read_number r = number_got (number (word_here r)) (past_word r)
