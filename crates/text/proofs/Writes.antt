-- Texts put one after another. `sets`, which writes a text over a list, asks for no room, so neither do these laws.
use Prim.Native.Nat.{ℕ, suc, ◌+◌, ◌-◌, ◌≤◌}
use native.Mathlib.Nat.{add-zero, add-suc, suc-add, zero-add}
use native.Mathlib.Omega.{arith}
use borrow.Rule.Slice.PartMut.{put_mid}
use mathlib.Core.Path.{◌≡◌, refl, sym, ◌∙◌}
use mathlib.Core.List.{List, [], ◌∷◌, ◌++◌, append_assoc}
use lib.ListN.{length, drop, set, length-append}
use lib.Seq.{sets, sets-eq, drop-drop}
use Rattle.text.specs.Writes.{Wrote}

pub sets_append : (l : List ℕ) (i : ℕ) (s t : List ℕ) → sets (sets l i s) (i + length s) t ≡ sets l i (s ++ t)
sets_append l i [] t = rw add-zero
sets_append l i (x ∷ s) t = rw (add-suc, ← suc-add i (length s)) (sets_append (set l i x) (suc i) s t)

pub nothing : (l : List ℕ) (i : ℕ) → Wrote l l i i []
nothing l i = record { bytes = refl; after = omega arith }

-- two writes in a row are one of both texts
pub then : {a b c : List ℕ} {i j k : ℕ} {s t : List ℕ} → Wrote a b i j s → Wrote b c j k t → Wrote a c i k (s ++ t)
then {a} {i = i} {s = s} {t = t} p q = record { bytes = simp (q.bytes, p.bytes, p.after) (sets_append a i s t); after = simp length-append (omega arith) }

-- a text put at the front: the text, and what stood behind it
pub sets_front : (l s : List ℕ) → length s ≤ length l → sets l 0 s ≡ s ++ drop (length s) l
sets_front l s h = sets-eq s l 0 (rw zero-add h) ∙ simp zero-add

-- a text copied over a part of the buffer
pub copied : (l s : List ℕ) (i j : ℕ) → j ≡ i + length s → j ≤ length l → Wrote l (put_mid i (j - i) l s) i j s
copied l s i j e h =
    let k : j - i ≡ length s = omega arith in
    record { bytes = rw k (sym (sets-eq s l i (omega arith) ∙ simp (append_assoc, drop-drop))); after = e }
