-- What is written is read back, whatever follows that parts it from the next word; so no two values have one text.
use Prim.Native.Nat.{ℕ, zero, suc, ◌+◌, ◌/◌, ◌%◌, ◌^◌, ◌≤◌, ◌<◌}
use native.Mathlib.Omega.{arith}
use native.Mathlib.Decide.{dec_lt}
use mathlib.Core.Logic.{by_cases}
use mathlib.Core.Path.{◌≡◌, refl}
use mathlib.Core.List.{List, [], ◌∷◌, ◌++◌}
use lib.ListN.{length, length-append}
use lib.Seq.{drop-append_seam}
use borrow.Author.Tests.{eq-eqb, le-leb, lt-ltb, le-ltb}
use Rattle.text.specs.Words.{run}
use Rattle.text.specs.Same.{same_text}
use Rattle.text.specs.Decimals.{decimal, decimal_on}
use Rattle.text.specs.Rests.{at, after_byte, after, word_here, says, past, past_word, number_got, read_number}
use Rattle.text.proofs.Words.{word_append}
use Rattle.text.proofs.DecimalRead.{read-decimal, run-decimal}

-- ---- given texts

pub after_back : (k t : List ℕ) → after k (at (k ++ t)) ≡ at t
unfolding after after_byte
after_back [] t = refl
after_back (b ∷ k) t = rw (eq-eqb b b refl) (after_back k t)

-- ---- keywords: a text whose run is all of it is one word

module _ (w t : List ℕ) (e : run w ≡ length w) (z : run t ≡ 0) where
  pub word_back : word_here (at (w ++ t)) ≡ w
  unfolding word_here
  word_back = word_append w t e z

  -- `same_text` computes on two keywords
  pub says_back : (k : List ℕ) → says k (at (w ++ t)) ≡ same_text w k
  unfolding says
  says_back k = rw word_back

  pub past_back : past_word (at (w ++ t)) ≡ at t
  unfolding past_word past
  past_back = rw (word_back, le-leb (length w) (length (w ++ t)) (rw length-append (omega arith)), drop-append_seam)

-- ---- numbers

pub number_back : (n : ℕ) (t : List ℕ) → n < 2 ^ 64 → run t ≡ 0 → read_number (at (decimal n ++ t)) ≡ record { value = n; next = at t }
unfolding read_number number_got
number_back n t h z = rw (word_back (decimal n) t (run-decimal n) z, past_back (decimal n) t (run-decimal n) z, read-decimal n h)

pub decimal_injective : (m n : ℕ) → m < 2 ^ 64 → n < 2 ^ 64 → decimal m ≡ decimal n → m ≡ n
decimal_injective m n p q e = cc (read-decimal m p, read-decimal n q)

length-decimal_on : (k n : ℕ) (s : List ℕ) → length (decimal_on k n s) ≤ k + length s
unfolding decimal_on
length-decimal_on zero n s = omega arith
length-decimal_on (suc k) n s =
    by_cases (dec_lt n 10)
    (λ h. rw (lt-ltb n 10 h) (omega arith))
    (λ h. rw (le-ltb n 10 (omega arith)) (omega (arith, length-decimal_on k (n / 10) ((48 + n % 10) ∷ s))))

-- at most 20 bytes
pub length-decimal : (n : ℕ) → length (decimal n) ≤ 20
unfolding decimal
length-decimal n = length-decimal_on 20 n []
