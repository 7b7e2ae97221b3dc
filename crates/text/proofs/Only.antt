-- Nothing else is read: a word that says a number is the text of that number, which is below 2^64. So a number has one text,
-- and no zero leads in it.
use Prim.Native.Nat.{ℕ, zero, suc, ◌+◌, ◌-◌, ◌*◌, ◌/◌, ◌%◌, ◌^◌, ◌≤◌, ◌<◌}
use native.Mathlib.Nat.{pow-suc}
use native.Mathlib.Omega.{arith}
use native.Mathlib.Decide.{dec_lt}
use mathlib.Core.Logic.{by_cases}
use mathlib.Core.Path.{◌≡◌, refl, sym, ◌∙◌}
use mathlib.Core.List.{List, [], ◌∷◌, ◌++◌}
use borrow.Author.Tests.{lt-ltb, le-ltb, le-leb, lt-leb}
use Rattle.std.specs.Prelude.{Option, Some, None}
use Rattle.text.specs.Decimals.{decimal, decimal_on, digit, more, number}
use Rattle.text.specs.Digits.{read_on}
use Rattle.text.specs.Rests.{Rest, word_here, past_word, number_got, read_number}
use Rattle.text.proofs.Digits.{bad_stays, taken}
use Rattle.text.proofs.DecimalRead.{digit_value, more_value, more_over, more_bad}

-- ---- one more digit is one more byte of text

append-decimal_on : (k n : ℕ) (s t : List ℕ) → decimal_on k n (s ++ t) ≡ decimal_on k n s ++ t
unfolding decimal_on
append-decimal_on zero n s t = refl
append-decimal_on (suc k) n s t =
    by_cases (dec_lt n 10)
    (λ h. rw (lt-ltb n 10 h))
    (λ h. rw (le-ltb n 10 (omega arith)) (append-decimal_on k (n / 10) ((48 + n % 10) ∷ s) t))

more_room : (k n : ℕ) (s : List ℕ) → n < 10 ^ suc k → decimal_on (suc k) n s ≡ decimal_on (suc (suc k)) n s
unfolding decimal_on
more_room zero n s h = rw (lt-ltb n 10 h)
more_room (suc k) n s h =
    let g : n < 10 ^ suc k * 10 = rw (pow-suc 10 (suc k)) at h in
    by_cases (dec_lt n 10)
    (λ p. rw (lt-ltb n 10 p))
    (λ p. rw (le-ltb n 10 (omega arith)) (more_room k (n / 10) ((48 + n % 10) ∷ s) (omega arith)))

longer : (k n d : ℕ) (s : List ℕ) → 0 < n → d < 10 → decimal_on (suc k) (n * 10 + d) s ≡ decimal_on k n ((48 + d) ∷ s)
unfolding decimal_on
longer k n d s z h =
    let a : (n * 10 + d) / 10 ≡ n = omega arith in
    let b : (n * 10 + d) % 10 ≡ d = omega arith in
    rw (le-ltb (n * 10 + d) 10 (omega arith), a, b)

decimal_more : (n d : ℕ) → 0 < n → d < 10 → n * 10 + d < 2 ^ 64 → decimal (n * 10 + d) ≡ decimal n ++ ((48 + d) ∷ [])
unfolding decimal
decimal_more n d z h l = longer 19 n d [] z h ∙ more_room 18 n ((48 + d) ∷ []) (omega arith) ∙ append-decimal_on 20 n [] ((48 + d) ∷ [])

one_digit : (k d : ℕ) (s : List ℕ) → d < 10 → decimal_on (suc k) d s ≡ (48 + d) ∷ s
unfolding decimal_on
one_digit k d s h = rw (lt-ltb d 10 h)

one_decimal : (d : ℕ) → d < 10 → decimal d ≡ (48 + d) ∷ []
unfolding decimal
one_decimal d h = one_digit 19 d [] h

-- ---- a byte that is taken

pub digit_low : (b : ℕ) → b < 48 → digit b ≡ None
unfolding digit
digit_low b h = rw (lt-leb 48 b h)

pub digit_high : (b : ℕ) → 57 < b → digit b ≡ None
unfolding digit
digit_high b h = simp (le-leb 48 b (omega arith), lt-leb b 57 h)

digit_is : (b d : ℕ) → digit b ≡ Some d → (d < 10) × (b ≡ 48 + d)
digit_is b d e =
    by_cases (dec_lt b 48) (λ h. cc (digit_low b h)) (λ h.
    by_cases (dec_lt 57 b) (λ g. cc (digit_high b g)) (λ g.
    let f = digit_value b (omega arith) (omega arith) in
    let z : d ≡ b - 48 = cc in
    (omega arith, omega arith)))

more_low : (n b : ℕ) → b < 48 → more (Some n) b ≡ None
unfolding more
more_low n b h = rw (lt-leb 48 b h)

more_high : (n b : ℕ) → 57 < b → more (Some n) b ≡ None
unfolding more
more_high n b h = simp (le-leb 48 b (omega arith), lt-leb b 57 h)

more_zero : (n b : ℕ) → 48 ≤ b → b ≤ 57 → n ≤ 0 → more (Some n) b ≡ None
unfolding more
more_zero n b p q h = simp (le-leb 48 b p, le-leb b 57 q, le-ltb 0 n h)

-- ---- a byte after a number, by what it says as a digit

pub more_no_digit : (n b : ℕ) → digit b ≡ None → None ≡ more (Some n) b
more_no_digit n b e =
    by_cases (dec_lt b 48) (λ h. sym (more_low n b h)) (λ h.
    by_cases (dec_lt 57 b) (λ g. sym (more_high n b g)) (λ g.
    let d = digit_value b (omega arith) (omega arith) in cc))

module _ (n b d : ℕ) (e : digit b ≡ Some d) where
  pub more_after_zero : n ≡ 0 → None ≡ more (Some n) b
  more_after_zero h = let a = digit_is b d e in sym (more_zero n b (omega arith) (omega arith) (omega arith))

  pub more_digit : 0 < n → n * 10 + d < 2 ^ 64 → Some (n * 10 + d) ≡ more (Some n) b
  more_digit h r =
      let a = digit_is b d e in
      let f : b - 48 ≡ d = omega arith in
      rw (← f) (sym (more_value n b (omega arith) (omega arith) h (omega arith)))

  pub more_too_large : 0 < n → 2 ^ 64 ≤ n * 10 + d → None ≡ more (Some n) b
  more_too_large h r =
      let a = digit_is b d e in
      let f : b - 48 ≡ d = omega arith in
      sym (more_over n b (omega arith) (omega arith) h (omega arith))

-- the text of a number below 2^64
unfoldable Said : List ℕ → ℕ → Type 0
Said s n = (s ≡ decimal n) × (n < 2 ^ 64)

more_said : (p : List ℕ) (n b m : ℕ) → Said p n → more (Some n) b ≡ Some m → Said (p ++ (b ∷ [])) m
unfolding Said
more_said p n b m h e =
    by_cases (dec_lt b 48) (λ u. cc (more_low n b u)) (λ u.
    by_cases (dec_lt 57 b) (λ v. cc (more_high n b v)) (λ v.
    by_cases (dec_lt 0 n) (λ w.
    by_cases (dec_lt (n * 10 + (b - 48)) (2 ^ 64))
    (λ x.
    let f = more_value n b (omega arith) (omega arith) w x in
    let y : n * 10 + (b - 48) ≡ m = cc in
    let c : 48 + (b - 48) ≡ b = omega arith in
    (rw (← y, decimal_more n (b - 48) w (omega arith) x, c, ← h.0), omega arith))
    (λ x. cc (more_over n b (omega arith) (omega arith) w (omega arith))))
    (λ w. cc (more_zero n b (omega arith) (omega arith) (omega arith)))))

pub number_only : (s : List ℕ) (n : ℕ) → number s ≡ Some n → (s ≡ decimal n) × (n < 2 ^ 64)
unfolding number Said
number_only [] n e = cc
number_only (b ∷ s) n e = go (digit b) refl e
  where
    go : (r : Option ℕ) → digit b ≡ r → read_on more r s ≡ Some n → (b ∷ s ≡ decimal n) × (n < 2 ^ 64)
    go None f g = cc (bad_stays more more_bad s)
    go (Some d) f g =
        let a = digit_is b d f in
        taken more more_bad Said more_said s (b ∷ []) d n (rw a.1 (sym (one_decimal d a.0)), omega arith) g

pub number_range : (r : Rest) → (read_number r).value < 2 ^ 64
unfolding read_number number_got
number_range r = go (number (word_here r)) refl
  where
    go : (m : Option ℕ) → number (word_here r) ≡ m → (number_got m (past_word r)).value < 2 ^ 64
    go (Some n) e = (number_only (word_here r) n e).1
    go None e = omega arith
