-- Capitals. A text without them is its own lowercase, and none is written in a hash.
use Prim.Native.Nat.{ℕ, ◌+◌, ◌<◌, ◌≤◌}
use native.Mathlib.Omega.{arith}
use native.Mathlib.Decide.{dec_lt}
use mathlib.Core.Logic.{by_cases}
use mathlib.Core.Path.{◌≡◌, refl}
use mathlib.Core.Bool.{Bool, true, false, ◌||◌}
use mathlib.Core.List.{List, [], ◌∷◌, map}
use borrow.Author.Tests.{le-leb, lt-leb}
use Rattle.std.specs.Char.{is_ascii_uppercase, to_ascii_lowercase}
use Rattle.std.specs.List.{list_any}
use Rattle.std.proofs.lemmas.Str.Ascii.{lowercase_is}
use Rattle.hash.specs.declared.Hash.{Hash}
use Rattle.hash_text.specs.Hex.{glyph, hex_text}
use Rattle.hash_text.specs.Texts.{hash_prefix, hash_text}
use Rattle.hash_text.proofs.HexRead.{glyph_test, hex_text_none}

-- what holds of a byte and its lowercase, below, among and above the capitals
pub by_case : (P : ℕ → Type 0) (b : ℕ) → (b < 65 → P b) → (65 ≤ b → b ≤ 90 → P (b + 32)) → (90 < b → P b) → P (to_ascii_lowercase b)
by_case P b below among above =
    by_cases (dec_lt b 65) (λ h. rw ((lowercase_is b).1 h) (below h)) (λ h₀.
    by_cases (dec_lt 90 b) (λ h. rw ((lowercase_is b).2 h) (above h)) (λ h₁.
    rw ((lowercase_is b).0 (omega arith, omega arith)) (among (omega arith) (omega arith))))

-- ---- without capitals

capital : (b : ℕ) → 65 ≤ b → b ≤ 90 → is_ascii_uppercase b ≡ true
capital b p q = rw (le-leb 65 b p, le-leb b 90 q) refl

lowercase_stays : (b : ℕ) → is_ascii_uppercase b ≡ false → to_ascii_lowercase b ≡ b
lowercase_stays b e = by_case (λ c. c ≡ b) b (λ h. refl) (λ p q. cc (capital b p q)) (λ h. refl)

pub no_capital_stays : (s : List ℕ) → list_any is_ascii_uppercase s ≡ false → map to_ascii_lowercase s ≡ s
no_capital_stays [] e = refl
no_capital_stays (b ∷ s) e = go (is_ascii_uppercase b) refl e (no_capital_stays s)
  where
    go : (x : Bool) → is_ascii_uppercase b ≡ x → (x || list_any is_ascii_uppercase s) ≡ false
        → (list_any is_ascii_uppercase s ≡ false → map to_ascii_lowercase s ≡ s) → map to_ascii_lowercase (b ∷ s) ≡ b ∷ s
    go true f g k = cc
    go false f g k = rw (lowercase_stays b f, k g) refl

-- ---- what is written

glyph_no_capital : (d : ℕ) → d < 16 → is_ascii_uppercase (glyph d) ≡ false
glyph_no_capital =
    glyph_test (λ b. is_ascii_uppercase b ≡ false)
    (λ b p q. rw (lt-leb 65 b (omega arith)) refl)
    (λ b p q. rw (le-leb 65 b (omega arith), lt-leb b 90 (omega arith)) refl)

pub hash_no_capital : (h : Hash) → list_any is_ascii_uppercase (hash_text h) ≡ false
unfolding hash_text hash_prefix
hash_no_capital h = hex_text_none is_ascii_uppercase glyph_no_capital h

-- so the digits are in lowercase
pub hex_lowercase : (h : Hash) → map to_ascii_lowercase (hex_text h) ≡ hex_text h
hex_lowercase h = no_capital_stays (hex_text h) (hex_text_none is_ascii_uppercase glyph_no_capital h)
