-- The number of a row of hexadecimal digits, one digit at a time.
use Prim.Native.Nat.{ℕ, zero, suc, ◌+◌, ◌-◌, ◌*◌, ◌/◌, ◌%◌, ◌^◌, ◌≤◌, ◌<◌}
use native.Mathlib.Nat.{pow-suc}
use native.Mathlib.Omega.{arith}
use native.Mathlib.Decide.{dec_lt}
use mathlib.Core.Logic.{by_cases}
use mathlib.Core.Path.{◌≡◌, refl, ap, sym, ◌∙◌}
use mathlib.Core.Bool.{Bool, false, true}
use mathlib.Core.List.{List, [], ◌∷◌, ◌++◌}
use lib.ListN.{length, take, drop, length-append}
use lib.Seq.{take_at, drop_at, drop-drop, take-length}
use Rattle.std.specs.List.{list_any}
use Rattle.std.proofs.lemmas.List.Folds.{list_any-append}
use Rattle.std.specs.Char.{to_ascii_lowercase}
use Rattle.std.proofs.lemmas.Str.Ascii.{lowercase_is}
use borrow.Author.Tests.{eq-eqb, ne_eqb, lt-ltb, le-ltb, le-leb, lt-leb}
use Rattle.std.specs.Prelude.{Option, Some, None}
use Rattle.hash.specs.declared.Hash.{Hash}
use Rattle.text.specs.Words.{run, in_word}
use Rattle.hash_text.specs.Hex.{glyph, hex_on, hex, hex_text, digit_value, join_digit, hex_more, hex_number, joined, hex_hash}
use Rattle.text.specs.Digits.{read_on}
use Rattle.hash.specs.Ranges.{HashFits}
use Rattle.text.proofs.Words.{run_cons, run_both, in_word_above}

-- ---- one byte

module _ (b : ℕ) where
  value_decimal : (d : ℕ) → 48 ≤ b → b ≤ 57 → d ≡ b - 48 → Some d ≡ digit_value b
  unfolding digit_value
  value_decimal d p q e = rw (le-leb 48 b p, le-leb b 57 q, e) refl

  pub value_small : (d : ℕ) → 97 ≤ b → b ≤ 102 → d ≡ b - 97 + 10 → Some d ≡ digit_value b
  unfolding digit_value
  value_small d p q e = rw (le-leb 48 b (omega arith), lt-leb b 57 (omega arith), le-leb 97 b p, le-leb b 102 q, e) refl

  pub value_capital : (d : ℕ) → 65 ≤ b → b ≤ 70 → d ≡ b - 65 + 10 → Some d ≡ digit_value b
  unfolding digit_value
  value_capital d p q e =
      rw (le-leb 48 b (omega arith), lt-leb b 57 (omega arith), lt-leb 97 b (omega arith), le-leb 65 b p, le-leb b 70 q, e) refl

  none_below : b < 48 → None ≡ digit_value b
  unfolding digit_value
  none_below p = rw (lt-leb 48 b p, lt-leb 97 b (omega arith), lt-leb 65 b (omega arith)) refl

  none_before_capitals : 57 < b → b < 65 → None ≡ digit_value b
  unfolding digit_value
  none_before_capitals p q = rw (le-leb 48 b (omega arith), lt-leb b 57 p, lt-leb 97 b (omega arith), lt-leb 65 b q) refl

  pub none_before_small : 70 < b → b < 97 → None ≡ digit_value b
  unfolding digit_value
  none_before_small p q =
      rw (le-leb 48 b (omega arith), lt-leb b 57 (omega arith), lt-leb 97 b q, le-leb 65 b (omega arith), lt-leb b 70 p) refl

  pub none_above : 102 < b → None ≡ digit_value b
  unfolding digit_value
  none_above p =
      rw (
        le-leb 48 b (omega arith),
        lt-leb b 57 (omega arith),
        le-leb 97 b (omega arith),
        lt-leb b 102 p,
        le-leb 65 b (omega arith),
        lt-leb b 70 (omega arith),
      ) refl

-- one of the three ranges, or none
by_range : (b : ℕ) (P : Type 0) → (48 ≤ b → b ≤ 57 → P) → (65 ≤ b → b ≤ 70 → P) → (97 ≤ b → b ≤ 102 → P) → (None ≡ digit_value b → P) → P
by_range b P decimal capital small none =
    by_cases (dec_lt b 48) (λ h. none (none_below b h)) (λ h₀.
    by_cases (dec_lt b 58) (λ h. decimal (omega arith) (omega arith)) (λ h₁.
    by_cases (dec_lt b 65) (λ h. none (none_before_capitals b (omega arith) h)) (λ h₂.
    by_cases (dec_lt b 71) (λ h. capital (omega arith) (omega arith)) (λ h₃.
    by_cases (dec_lt b 97) (λ h. none (none_before_small b (omega arith) h)) (λ h₄.
    by_cases (dec_lt b 103) (λ h. small (omega arith) (omega arith)) (λ h₅. none (none_above b (omega arith))))))))

-- a byte that says d is, in lowercase, the digit of d
pub record IsDigit (b d : ℕ) : Type 0 where
  pub small : d < 16
  pub byte : glyph d ≡ to_ascii_lowercase b

pub digit_is : (b d : ℕ) → digit_value b ≡ Some d → IsDigit b d
unfolding glyph
digit_is b d e =
    by_range b (IsDigit b d)
    (λ p q.
    let f = value_decimal b (b - 48) p q refl in
    let x : d ≡ b - 48 = cc in
    let y : 48 + d ≡ b = omega arith in
    record { small = omega arith; byte = rw (lt-ltb d 10 (omega arith), (lowercase_is b).1 (omega arith)) y })
    (λ p q.
    let f = value_capital b (b - 65 + 10) p q refl in
    let x : d ≡ b - 65 + 10 = cc in
    let y : 97 + (d - 10) ≡ b + 32 = omega arith in
    record { small = omega arith; byte = rw (le-ltb d 10 (omega arith), (lowercase_is b).0 (omega arith, omega arith)) y })
    (λ p q.
    let f = value_small b (b - 97 + 10) p q refl in
    let x : d ≡ b - 97 + 10 = cc in
    let y : 97 + (d - 10) ≡ b = omega arith in
    record { small = omega arith; byte = rw (le-ltb d 10 (omega arith), (lowercase_is b).2 (omega arith)) y })
    (λ f. cc)

pub more_value : (n b d : ℕ) → Some d ≡ digit_value b → n < 2 ^ 60 → Some (n * 16 + d) ≡ hex_more (Some n) b
unfolding hex_more join_digit
more_value n b d e h = rw (← e, lt-ltb n (2 ^ 60) h)

pub more_bad : (b : ℕ) → hex_more None b ≡ None
unfolding hex_more
more_bad b = refl

-- ---- what was written is read back

-- a digit is one of `0` to `9`, or one of `a` to `f`
pub glyph_test : (P : ℕ → Type 0) → ((b : ℕ) → 48 ≤ b → b ≤ 57 → P b) → ((b : ℕ) → 97 ≤ b → b ≤ 102 → P b) → (d : ℕ) → d < 16 → P (glyph d)
unfolding glyph
glyph_test P decimal letter d h =
    by_cases (dec_lt d 10)
    (λ p. rw (lt-ltb d 10 p) (decimal (48 + d) (omega arith) (omega arith)))
    (λ p. rw (le-ltb d 10 (omega arith)) (letter (97 + (d - 10)) (omega arith) (omega arith)))

pub value_glyph : (d : ℕ) → d < 16 → Some d ≡ digit_value (glyph d)
unfolding glyph
value_glyph d h =
    by_cases (dec_lt d 10)
    (λ p. simp (lt-ltb d 10 p) (value_decimal (48 + d) d (omega arith) (omega arith) (omega arith)))
    (λ p. simp (le-ltb d 10 (omega arith)) (value_small (97 + (d - 10)) d (omega arith) (omega arith) (omega arith)))

read-hex_on : (k n : ℕ) (s : List ℕ) → n < 16 ^ k → n < 2 ^ 64 → read_on hex_more (Some 0) (hex_on k n s) ≡ read_on hex_more (Some n) s
unfolding hex_on read_on
read-hex_on zero n s h l = let e : n ≡ 0 = omega arith in rw e
read-hex_on (suc k) n s h l =
    let g : n < 16 ^ k * 16 = rw (pow-suc 16 k) at h in
    let e : n / 16 * 16 + n % 16 ≡ n = omega arith in
    read-hex_on k (n / 16) (glyph (n % 16) ∷ s) (omega arith) (omega arith)
    ∙ ap (λ (r : Option ℕ). read_on hex_more r s) (sym (more_value (n / 16) (glyph (n % 16)) (n % 16) (value_glyph (n % 16) (omega arith)) (omega arith)) ∙ ap Some e)

read-hex : (n : ℕ) → n < 2 ^ 64 → hex_number (hex n) ≡ Some n
unfolding hex_number hex read_on
read-hex n h = read-hex_on 16 n [] h h

-- ---- sixteen digits, each a byte of a word

length-hex_on : (k n : ℕ) (s : List ℕ) → length (hex_on k n s) ≡ k + length s
unfolding hex_on
length-hex_on zero n s = omega arith
length-hex_on (suc k) n s = length-hex_on k (n / 16) (glyph (n % 16) ∷ s) ∙ omega arith

length-hex : (n : ℕ) → length (hex n) ≡ 16
unfolding hex
length-hex n = length-hex_on 16 n []

in_word_glyph : (d : ℕ) → d < 16 → in_word (glyph d) ≡ true
in_word_glyph = glyph_test (λ b. in_word b ≡ true) (λ b p q. in_word_above b (omega arith)) (λ b p q. in_word_above b (omega arith))

run-hex_on : (k n : ℕ) (s : List ℕ) → run s ≡ length s → run (hex_on k n s) ≡ length (hex_on k n s)
unfolding hex_on
run-hex_on zero n s p = p
run-hex_on (suc k) n s p = run-hex_on k (n / 16) (glyph (n % 16) ∷ s) (run_cons (glyph (n % 16)) s (in_word_glyph (n % 16) (omega arith)) p)

run-hex : (n : ℕ) → run (hex n) ≡ length (hex n)
unfolding hex run
run-hex n = run-hex_on 16 n [] refl

-- ---- hashes

module _ (s : List ℕ) where
  pub hash_short : (length s ≡ 64 → ⊥) → None ≡ hex_hash s
  unfolding hex_hash
  hash_short h = rw (ne_eqb (length s) 64 h)

  pub hash_long : (a b c d : Option ℕ) (r : Option Hash) → length s ≡ 64 → a ≡ hex_number (take 16 (drop 0 s)) → b ≡ hex_number (take 16 (drop 16 s)) → c ≡ hex_number (take 16 (drop 32 s)) → d ≡ hex_number (take 16 (drop 48 s)) → r ≡ joined a b c d → r ≡ hex_hash s
  unfolding hex_hash
  hash_long a b c d r h p q u v w = rw (eq-eqb (length s) 64 h, ← p, ← q, ← u, ← v) w

pub length-hex_text : (h : Hash) → length (hex_text h) ≡ 64
unfolding hex_text
length-hex_text h = simp (length-append, length-hex)

pub run-hex_text : (h : Hash) → run (hex_text h) ≡ length (hex_text h)
unfolding hex_text
run-hex_text h =
    run_both (hex h.w0) _ (run-hex h.w0)
    (run_both (hex h.w1) _ (run-hex h.w1)
    (run_both (hex h.w2) (hex h.w3) (run-hex h.w2) (run-hex h.w3)))

module _ (p q r s : List ℕ) (lp : length p ≡ 16) (lq : length q ≡ 16) (lr : length r ≡ 16) (ls : length s ≡ 16) where
  part_1 : take 16 (drop 16 (p ++ (q ++ (r ++ s)))) ≡ q
  part_1 = rw (drop_at p (q ++ (r ++ s)) 16 lp) (take_at q (r ++ s) 16 lq)

  part_2 : take 16 (drop 32 (p ++ (q ++ (r ++ s)))) ≡ r
  part_2 = rw (← drop-drop 16 16 (p ++ (q ++ (r ++ s))), drop_at p (q ++ (r ++ s)) 16 lp, drop_at q (r ++ s) 16 lq) (take_at r s 16 lr)

  part_3 : take 16 (drop 48 (p ++ (q ++ (r ++ s)))) ≡ s
  part_3 = rw (← drop-drop 32 16 (p ++ (q ++ (r ++ s))), ← drop-drop 16 16 (drop 16 (p ++ (q ++ (r ++ s)))), drop_at p (q ++ (r ++ s)) 16 lp, drop_at q (r ++ s) 16 lq, drop_at r s 16 lr, ← ls) (take-length s)

pub read-hex_text : (h : Hash) → HashFits h → hex_hash (hex_text h) ≡ Some h
unfolding hex_text joined
read-hex_text h f =
    let a = hex h.w0 in
    let b = hex h.w1 in
    let c = hex h.w2 in
    let d = hex h.w3 in
    let la = length-hex h.w0 in
    let lb = length-hex h.w1 in
    let lc = length-hex h.w2 in
    let ld = length-hex h.w3 in
    sym (hash_long (hex_text h) (Some h.w0) (Some h.w1) (Some h.w2) (Some h.w3) (Some h) (length-hex_text h)
    (sym (rw (take_at a (b ++ (c ++ d)) 16 la) (read-hex h.w0 f.w0)))
    (sym (rw (part_1 a b c d la lb lc ld) (read-hex h.w1 f.w1)))
    (sym (rw (part_2 a b c d la lb lc ld) (read-hex h.w2 f.w2)))
    (sym (rw (part_3 a b c d la lb lc ld) (read-hex h.w3 f.w3)))
    refl)

-- ---- a test that no digit passes is passed by no byte of a hash's digits

module _ (test : ℕ → Bool) (digits : (d : ℕ) → d < 16 → test (glyph d) ≡ false) where
  hex_on_none : (k n : ℕ) (s : List ℕ) → list_any test s ≡ false → list_any test (hex_on k n s) ≡ false
  unfolding hex_on
  hex_on_none zero n s e = e
  hex_on_none (suc k) n s e = hex_on_none k (n / 16) (glyph (n % 16) ∷ s) (rw (digits (n % 16) (omega arith)) e)

  hex_none : (n : ℕ) → list_any test (hex n) ≡ false
  unfolding hex
  hex_none n = hex_on_none 16 n [] refl

  pub hex_text_none : (h : Hash) → list_any test (hex_text h) ≡ false
  unfolding hex_text
  hex_text_none h = simp (list_any-append, hex_none)
