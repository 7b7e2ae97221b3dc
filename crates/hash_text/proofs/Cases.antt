-- Lines that are a given text but for the case of hash digits: what stands in front of such a line, as its text goes.
use Prim.Native.Nat.{ℕ, zero, suc, ◌+◌}
use native.Mathlib.Omega.{arith}
use mathlib.Core.Path.{◌≡◌, refl, ap, ap₂, sym, ◌∙◌}
use mathlib.Core.Bool.{Bool, true, false, cond, ◌||◌}
use mathlib.Core.List.{List, [], ◌∷◌, ◌++◌, append-nil}
use lib.Dec.{eqb}
use lib.ListN.{length, get_or, take, drop, length-append}
use lib.Seq.{drop_at, take_at}
use borrow.Author.Tests.{ne_eqb}
use Rattle.std.specs.List.{list_any}
use Rattle.hash.specs.declared.Hash.{Hash}
use Rattle.text.specs.Decimals.{decimal}
use Rattle.text.specs.Words.{in_word, run}
use Rattle.hash_text.specs.Cases.{ButForCase, Cased, byte, end, hash}
use Rattle.hash_text.specs.Hex.{hex_text}
use Rattle.hash_text.specs.Texts.{hash_prefix, hash_text}
use Rattle.hash_text.proofs.Back.{length_cased, length_hash, own_text}
use Rattle.text.proofs.DecimalRead.{decimal_none}
use Rattle.hash_text.proofs.HexRead.{glyph_test, hex_text_none, length-hex_text}

-- ---- such lines

pub same_line : (t : List ℕ) → ButForCase t t
same_line [] = end
same_line (b ∷ t) = byte b (same_line t)

pub after_text : (k : List ℕ) {l t : List ℕ} → ButForCase l t → ButForCase (k ++ l) (k ++ t)
after_text [] c = c
after_text (b ∷ k) c = byte b (after_text k c)

-- they are as long
pub same_length : {l t : List ℕ} → ButForCase l t → length l ≡ length t
same_length end = refl
same_length (byte b c) = ap suc (same_length c)
same_length (hash w h k c) = simp length-append (omega (arith, length_cased w h k, length_hash h, same_length c))

-- and end as soon as they begin
pub same_start : {l t : List ℕ} → ButForCase l t → run t ≡ 0 → run l ≡ 0
unfolding run hash_text hash_prefix in_word
same_start end z = refl
same_start (byte b {l} {t} c) z = go (in_word b) z
  where
    go : (x : Bool) → cond x (suc (run t)) zero ≡ 0 → cond x (suc (run l)) zero ≡ 0
    go true e = absurd (omega arith)
    go false e = refl
same_start (hash w h k c) z = absurd (omega arith)

pub same_end : {l t : List ℕ} → ButForCase l t → t ≡ [] → l ≡ []
unfolding hash_text hash_prefix
same_end end e = refl
same_end (byte b c) e = cc
same_end (hash w h k c) e = cc

-- ---- what stands first

-- the line is the text k, and then but for the case of hash digits the text t
pub record Before (k l t : List ℕ) : Type 0 where
  pub rest : List ℕ
  pub is : l ≡ k ++ rest
  pub later : ButForCase rest t

first : (a b : ℕ) (s t : List ℕ) → a ∷ s ≡ b ∷ t → a ≡ b
first a b s t e = ap (λ (l : List ℕ). get_or l 0 0) e

others : (a b : ℕ) (s t : List ℕ) → a ∷ s ≡ b ∷ t → s ≡ t
others a b s t e = ap (drop 1) e

-- no hash begins with the byte
abbrev pub BeginsNone : ℕ → Type 0
BeginsNone b = b ≡ 48 → ⊥

pub before_byte : (b : ℕ) {l u : List ℕ} (t : List ℕ) → BeginsNone b → ButForCase l u → u ≡ b ∷ t → Before (b ∷ []) l t
unfolding hash_text hash_prefix
before_byte b t n end e = cc
before_byte b t n (byte a {l} {t = u} c) e = record { rest = l; is = rw (first a b u t e) refl; later = rw (others a b u t e) at c }
before_byte b t n (hash w h {t = u} k c) e = absurd (n (sym (first 48 b (120 ∷ (hex_text h ++ u)) t e)))

-- no `x`, which every hash has, stands in the text
abbrev pub NoHashIn : List ℕ → Type 0
NoHashIn s = list_any (eqb 120) s ≡ false

x_later : (b : ℕ) (k : List ℕ) → NoHashIn (b ∷ k) → NoHashIn k
x_later b k e = go (eqb 120 b) e
  where
    go : (x : Bool) → (x || list_any (eqb 120) k) ≡ false → NoHashIn k
    go true g = cc
    go false g = g

-- a word without that byte holds no hash
module _ (t : List ℕ) (z : run t ≡ 0) where
  no_prefix : (k s : List ℕ) → NoHashIn k → 120 ∷ s ≡ k ++ t → ⊥
  unfolding run in_word
  no_prefix [] s e f = absurd (omega (arith, rw (← f) at z))
  no_prefix (b ∷ k) s e f = cc (rw (← (first 120 b s (k ++ t) f)) at e)

  pub before_word : (k : List ℕ) {l u : List ℕ} → NoHashIn k → ButForCase l u → u ≡ k ++ t → Before k l t
  unfolding hash_text hash_prefix
  before_word [] {l} {u} e c f = record { rest = l; is = refl; later = rw f at c }
  before_word (b ∷ k) e end f = cc
  before_word (b ∷ k) e (byte a {t = u} c) f =
      let r = before_word k (x_later b k e) c (others a b u (k ++ t) f) in
      record { rest = r.rest; is = ap₂ ◌∷◌ (first a b u (k ++ t) f) r.is; later = r.later }
  before_word (b ∷ k) e (hash w h {t = u} d c) f =
      absurd (no_prefix k (hex_text h ++ u) (x_later b k e) (others 48 b (120 ∷ (hex_text h ++ u)) (k ++ t) f))

-- ---- decimals and hashes

pub decimal_no_hash : (n : ℕ) → NoHashIn (decimal n)
decimal_no_hash = decimal_none (eqb 120) (λ d h. ne_eqb 120 (48 + d) (λ x. omega arith))

digits_no_x : (h : Hash) → NoHashIn (hex_text h)
digits_no_x = hex_text_none (eqb 120) (glyph_test (λ b. eqb 120 b ≡ false) (λ b p q. ne_eqb 120 b (λ x. omega arith)) (λ b p q. ne_eqb 120 b (λ x. omega arith)))

-- a text with no hash in it stands for itself alone
pub without_hash : (t : List ℕ) {l : List ℕ} → NoHashIn t → ButForCase l t → l ≡ t
unfolding run
without_hash t e c =
    let b = before_word [] refl t e c (sym (append-nil t)) in
    b.is ∙ ap (λ (s : List ℕ). t ++ s) (same_end b.later refl) ∙ append-nil t

-- a hash, whatever the case of its digits
pub record BeforeHash (h : Hash) (l t : List ℕ) : Type 0 where
  pub word : List ℕ
  pub cased : Cased word h
  pub rest : List ℕ
  pub is : l ≡ word ++ rest
  pub later : ButForCase rest t

module _ (t : List ℕ) (z : run t ≡ 0) where
  -- the hash's own text, from its second byte on
  own : (h : Hash) → {l u : List ℕ} → ButForCase l u → 48 ∷ u ≡ hash_text h ++ t → BeforeHash h (48 ∷ l) t
  unfolding hash_text hash_prefix
  own h c e =
      let x = before_byte 120 (hex_text h ++ t) (λ q. omega arith) c (others 48 48 _ (120 ∷ (hex_text h ++ t)) e) in
      let d = before_word t z (hex_text h) (digits_no_x h) x.later refl in
      record { word = hash_text h; cased = own_text h; rest = d.rest; is = ap (λ (s : List ℕ). 48 ∷ s) (x.is ∙ ap (λ (s : List ℕ). 120 ∷ s) d.is); later = d.later }

  pub before_hash : (h : Hash) → {l u : List ℕ} → ButForCase l u → u ≡ hash_text h ++ t → BeforeHash h l t
  unfolding hash_text hash_prefix
  before_hash h end e = cc
  before_hash h (byte a {t = u} c) e = rw (first a 48 u (120 ∷ (hex_text h ++ t)) e) (own h c (rw (first a 48 u (120 ∷ (hex_text h ++ t)) e) at e))
  before_hash h (hash w g {l} {t = u} k c) e =
      let i : hex_text g ++ u ≡ hex_text h ++ t = ap (drop 2) e in
      let n = length-hex_text g in
      let m = length-hex_text h in
      let x : hex_text g ≡ hex_text h = sym (take_at (hex_text g) u 64 n) ∙ ap (take 64) i ∙ take_at (hex_text h) t 64 m in
      let y : u ≡ t = sym (drop_at (hex_text g) u 64 n) ∙ ap (drop 64) i ∙ drop_at (hex_text h) t 64 m in
      record {
        word = w;
        cased = record { digits = k.digits; is = k.is; same = k.same ∙ x };
        rest = l;
        is = refl;
        later = rw y at c;
      }
