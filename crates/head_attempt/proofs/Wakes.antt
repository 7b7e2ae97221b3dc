-- Waking a list of waiters, one after the other; and from a place on, what is still to do where the first of them are done.
use Prim.Native.Nat.{ℕ, zero, suc, ◌+◌, ◌≤◌, ◌<◌}
use native.Mathlib.Nat.{not-suc-le-zero, le_of_suc-le-suc}
use native.Mathlib.Omega.{arith}
use mathlib.Core.Path.{◌≡◌, refl, ap, ◌∙◌}
use mathlib.Core.List.{List, [], ◌∷◌, ◌++◌, map, append-nil}
use lib.ListN.{length, take, drop, get_or, set}
use Rattle.std.proofs.lemmas.List.{take_all, drop_all, get_or_default, length-append, length-map, length-take, length-drop}
use Rattle.std.proofs.lemmas.List.Edits.{map_over_more}
use Rattle.head_attempt.specs.Waiters.{slot_of, woken, wake}
use Rattle.head_attempt.specs.declared.HeadCompletion.{HeadCompletion}
use Rattle.head_values.specs.declared.ReadAnchor.{ReadAnchor}
use Rattle.head_attempt.specs.declared.Waiter.{Waiter}
use Rattle.head_attempt.specs.declared.WaiterSlot.{WaiterSlot}

abbrev pub woken_slot : HeadCompletion → ReadAnchor → WaiterSlot → WaiterSlot
woken_slot e a s = slot_of (woken e a s.waiter)

wake_is : (e : HeadCompletion) (a : ReadAnchor) (l : List WaiterSlot) → map (woken_slot e a) l ≡ wake e a l
unfolding wake
wake_is e a l = refl

module _ (e : HeadCompletion) (a : ReadAnchor) (l m : List WaiterSlot) (i : ℕ) (k : m ≡ map (woken_slot e a) (take i l) ++ drop i l) where
  long : length m ≡ length l
  long = ap length k ∙ simp (length-append, length-map, length-take, length-drop) (omega arith)

  pub wake_more : (d : WaiterSlot) (w : Waiter) → i < length m → w ≡ woken e a (get_or m i d).waiter → set m i (slot_of w) ≡ map (woken_slot e a) (take (i + 1) l) ++ drop (i + 1) l
  wake_more d w h f = rw f (map_over_more (woken_slot e a) l m i (get_or m i d) (omega (arith, long)) k (get_or_default m i d (get_or m i d) h))

  pub wake_all : length m ≤ i → m ≡ wake e a l
  wake_all h = let n : length l ≤ i = omega (arith, long) in k ∙ rw (take_all i l n, drop_all i l n, append-nil, wake_is e a l)

-- the first n are as they are, and the rest is woken
unfoldable pub wake_from : HeadCompletion → ReadAnchor → ℕ → List WaiterSlot → List WaiterSlot
wake_from e a n [] = []
wake_from e a zero (s ∷ ss) = slot_of (woken e a s.waiter) ∷ wake_from e a zero ss
wake_from e a (suc n) (s ∷ ss) = s ∷ wake_from e a n ss

module _ (e : HeadCompletion) (a : ReadAnchor) where
  pub from_zero : (l : List WaiterSlot) → wake_from e a 0 l ≡ wake e a l
  unfolding wake_from wake
  from_zero [] = refl
  from_zero (s ∷ ss) = ap (λ (t : List WaiterSlot). slot_of (woken e a s.waiter) ∷ t) (from_zero ss)

  pub from_next : (l : List WaiterSlot) (i : ℕ) (d : WaiterSlot) → i < length l
      → wake_from e a (suc i) (set l i (slot_of (woken e a (get_or l i d).waiter))) ≡ wake_from e a i l
  unfolding wake_from
  from_next [] i d h = absurd (not-suc-le-zero h)
  from_next (s ∷ ss) zero d h = refl
  from_next (s ∷ ss) (suc i) d h = ap (λ (t : List WaiterSlot). s ∷ t) (from_next ss i d (le_of_suc-le-suc h))

  pub from_end : (l : List WaiterSlot) (n : ℕ) → length l ≤ n → wake_from e a n l ≡ l
  unfolding wake_from
  from_end [] n h = refl
  from_end (s ∷ ss) zero h = absurd (not-suc-le-zero h)
  from_end (s ∷ ss) (suc n) h = ap (λ (t : List WaiterSlot). s ∷ t) (from_end ss n (le_of_suc-le-suc h))
