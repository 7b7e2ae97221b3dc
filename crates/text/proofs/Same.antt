-- Texts compared.
use Rattle.std.specs.Prelude.{cond}
use Prim.Native.Nat.{ℕ, suc}
use mathlib.Core.Path.{◌≡◌, refl, ap}
use mathlib.Core.Bool.{Bool, true, false, ◌&&◌}
use mathlib.Core.List.{List, [], ◌∷◌}
use lib.ListN.{length}
use lib.Dec.{eqb}
use borrow.Author.Tests.{eq-eqb, eqb-true}
use Rattle.std.specs.Cmp.Lexicographic.{pointwise}
use Rattle.text.specs.Same.{same_text}

either_false : (b : Bool) {r : Bool} → false ≡ r → false ≡ cond b r false
either_false true e = e
either_false false e = refl

pub same_short : (s t : List ℕ) → (length s ≡ length t → ⊥) → false ≡ same_text s t
unfolding same_text
same_short [] [] h = absurd (h refl)
same_short [] (y ∷ t) h = refl
same_short (x ∷ s) [] h = refl
same_short (x ∷ s) (y ∷ t) h = either_false (eqb x y) (same_short s t (λ e. h (ap suc e)))

-- what `==` on slices gives
pub same_pointwise : (s t : List ℕ) → pointwise eqb s t ≡ same_text s t
unfolding same_text
same_pointwise [] [] = refl
same_pointwise [] (y ∷ t) = refl
same_pointwise (x ∷ s) [] = refl
same_pointwise (x ∷ s) (y ∷ t) = go (eqb x y) (same_pointwise s t)
  where
    go : (b : Bool) → pointwise eqb s t ≡ same_text s t → (b && pointwise eqb s t) ≡ cond b (same_text s t) false
    go true e = e
    go false e = refl

pub same_refl : (s : List ℕ) → same_text s s ≡ true
unfolding same_text
same_refl [] = refl
same_refl (x ∷ s) = rw (eq-eqb x x refl) (same_refl s)

pub same_eq : (s t : List ℕ) → same_text s t ≡ true → s ≡ t
unfolding same_text
same_eq [] [] e = refl
same_eq [] (y ∷ t) e = cc
same_eq (x ∷ s) [] e = cc
same_eq (x ∷ s) (y ∷ t) e = go (eqb x y) refl e (same_eq s t)
  where
    go : (b : Bool) → eqb x y ≡ b → cond b (same_text s t) false ≡ true → (same_text s t ≡ true → s ≡ t) → x ∷ s ≡ y ∷ t
    go true f g k = rw (eqb-true x y f, k g)
    go false f g k = cc
