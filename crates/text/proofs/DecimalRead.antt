-- The number of a decimal word, one digit at a time.
use Prim.Native.Nat.{ℕ, zero, suc, ◌+◌, ◌-◌, ◌*◌, ◌/◌, ◌%◌, ◌^◌, ◌≤◌, ◌<◌}
use native.Mathlib.Nat.{pow-suc}
use native.Mathlib.Omega.{arith}
use native.Mathlib.Decide.{dec_lt}
use mathlib.Core.Logic.{by_cases}
use mathlib.Core.Path.{◌≡◌, refl, ap, sym, ◌∙◌}
use mathlib.Core.Bool.{Bool, false}
use mathlib.Core.List.{List, [], ◌∷◌}
use lib.ListN.{length}
use borrow.Author.Tests.{lt-ltb, le-ltb, le-leb}
use Rattle.std.specs.List.{list_any}
use Rattle.std.specs.Prelude.{Option, Some, None}
use Rattle.text.specs.Words.{run}
use Rattle.text.specs.Decimals.{decimal, decimal_on, digit, more, number}
use Rattle.text.specs.Digits.{read_on}
use Rattle.text.proofs.Words.{run_cons, in_word_above}
use Rattle.text.proofs.Digits.{bad_stays}

-- ---- one byte

pub digit_value : (b : ℕ) → 48 ≤ b → b ≤ 57 → digit b ≡ Some (b - 48)
unfolding digit
digit_value b p q = simp (le-leb 48 b p, le-leb b 57 q)

pub more_value : (n b : ℕ) → 48 ≤ b → b ≤ 57 → 0 < n → n * 10 + (b - 48) < 2 ^ 64 → more (Some n) b ≡ Some (n * 10 + (b - 48))
unfolding more
more_value n b p q z r = simp (le-leb 48 b p, le-leb b 57 q, lt-ltb 0 n z, lt-ltb (n * 10 + (b - 48)) (2 ^ 64) r)

pub more_over : (n b : ℕ) → 48 ≤ b → b ≤ 57 → 0 < n → 2 ^ 64 ≤ n * 10 + (b - 48) → more (Some n) b ≡ None
unfolding more
more_over n b p q z r = simp (le-leb 48 b p, le-leb b 57 q, lt-ltb 0 n z, le-ltb (n * 10 + (b - 48)) (2 ^ 64) r)

pub more_bad : (b : ℕ) → more None b ≡ None
unfolding more
more_bad b = refl

-- ---- where the loop of `read_decimal` begins

pub read_none : (s : List ℕ) → length s ≡ 0 → None ≡ number s
unfolding number
read_none [] h = refl
read_none (b ∷ s) h = absurd (omega arith)

module _ (s t : List ℕ) (b : ℕ) (e : s ≡ b ∷ t) (q : Option ℕ) (f : q ≡ digit b) where
  pub read_start : (r : Option ℕ) → q ≡ r → read_on more r t ≡ number s
  unfolding number
  read_start r g = rw (e, ← f, g)

  pub read_bad : q ≡ None → None ≡ number s
  read_bad g = sym (bad_stays more more_bad t) ∙ read_start None g

-- ---- what was written is read back, and what follows it is read on

read_last : (n : ℕ) (s : List ℕ) → n < 10 → number ((48 + n) ∷ s) ≡ read_on more (Some n) s
unfolding number
read_last n s p = let e : 48 + n - 48 ≡ n = omega arith in rw (digit_value (48 + n) (omega arith) (omega arith), e)

read-decimal_on : (k n : ℕ) (s : List ℕ) → n < 10 ^ suc k → n < 2 ^ 64 → number (decimal_on (suc k) n s) ≡ read_on more (Some n) s
unfolding decimal_on read_on
read-decimal_on zero n s h l = rw (lt-ltb n 10 h) (read_last n s h)
read-decimal_on (suc k) n s h l =
    by_cases (dec_lt n 10)
    (λ p. rw (lt-ltb n 10 p) (read_last n s p))
    (λ p.
    let g : n < 10 ^ suc k * 10 = rw (pow-suc 10 (suc k)) at h in
    let e : n / 10 * 10 + (48 + n % 10 - 48) ≡ n = omega arith in
    rw (le-ltb n 10 (omega arith))
    (read-decimal_on k (n / 10) ((48 + n % 10) ∷ s) (omega arith) (omega arith)
    ∙ ap (λ (r : Option ℕ). read_on more r s) (more_value (n / 10) (48 + n % 10) (omega arith) (omega arith) (omega arith) (omega arith) ∙ ap Some e)))

pub read-decimal : (n : ℕ) → n < 2 ^ 64 → number (decimal n) ≡ Some n
unfolding decimal read_on
read-decimal n h = read-decimal_on 19 n [] (omega arith) h

-- ---- the text of a number is one word

run-decimal_on : (k n : ℕ) (s : List ℕ) → run s ≡ length s → run (decimal_on k n s) ≡ length (decimal_on k n s)
unfolding decimal_on
run-decimal_on zero n s p = p
run-decimal_on (suc k) n s p =
    by_cases (dec_lt n 10)
    (λ h. rw (lt-ltb n 10 h) (run_cons (48 + n) s (in_word_above (48 + n) (omega arith)) p))
    (λ h. rw (le-ltb n 10 (omega arith)) (run-decimal_on k (n / 10) ((48 + n % 10) ∷ s) (run_cons (48 + n % 10) s (in_word_above (48 + n % 10) (omega arith)) p)))

pub run-decimal : (n : ℕ) → run (decimal n) ≡ length (decimal n)
unfolding decimal run
run-decimal n = run-decimal_on 20 n [] refl

-- ---- a test that no digit passes is passed by no byte of a decimal

module _ (test : ℕ → Bool) (digits : (d : ℕ) → d < 10 → test (48 + d) ≡ false) where
  decimal_on_none : (k n : ℕ) (s : List ℕ) → list_any test s ≡ false → list_any test (decimal_on k n s) ≡ false
  unfolding decimal_on
  decimal_on_none zero n s e = e
  decimal_on_none (suc k) n s e =
      by_cases (dec_lt n 10)
      (λ h. rw (lt-ltb n 10 h, digits n h) e)
      (λ h. rw (le-ltb n 10 (omega arith)) (decimal_on_none k (n / 10) ((48 + n % 10) ∷ s) (rw (digits (n % 10) (omega arith)) e)))

  pub decimal_none : (n : ℕ) → list_any test (decimal n) ≡ false
  unfolding decimal
  decimal_none n = decimal_on_none 20 n [] refl
