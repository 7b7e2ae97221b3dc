-- A word tested byte by byte against a keyword.
use Rattle.std.specs.Prelude.{cond}
use Prim.Native.Nat.{ℕ, zero, suc}
use mathlib.Core.Bool.{Bool, true, false}
use mathlib.Core.List.{List, [], ◌∷◌}
use mathlib.Core.Path.{◌≡◌, refl, sym, ◌∙◌}
use lib.ListN.{length, get_or}
use lib.Dec.{eqb}
use borrow.Author.Tests.{ne_eqb}
use Rattle.std.proofs.lemmas.Slice.Eq.{HasBytesAt, text_from_reads}
use Rattle.text.specs.Same.{same_text}
use Rattle.text.proofs.Same.{same_refl, same_short}

pub same_bytes : (s k : List ℕ) → length s ≡ length k → HasBytesAt s 0 k → same_text s k ≡ true
same_bytes s k l h = rw (text_from_reads s k l h) (same_refl k)

pub other_length : (s k : List ℕ) (n : ℕ) → length s ≡ n → (n ≡ length k → ⊥) → same_text s k ≡ false
other_length s k n l h = sym (same_short s k (λ e. h (sym l ∙ e)))

pub other_byte : (s k : List ℕ) (i : ℕ) → (get_or s i 0 ≡ get_or k i 0 → ⊥) → same_text s k ≡ false
unfolding same_text
other_byte [] [] i h = absurd (h refl)
other_byte [] (y ∷ k) i h = refl
other_byte (x ∷ s) [] i h = refl
other_byte (x ∷ s) (y ∷ k) zero h = rw (ne_eqb x y h)
other_byte (x ∷ s) (y ∷ k) (suc i) h = rw (other_byte s k i h) (go (eqb x y))
  where
    go : (b : Bool) → cond b false false ≡ false
    go true = refl
    go false = refl
