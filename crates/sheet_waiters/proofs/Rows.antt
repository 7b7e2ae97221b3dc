-- The loop over the waiters: after i turns the lines of the first i are put.
use Prim.Native.Nat.{ℕ, zero, suc, ◌+◌, ◌≤◌, ◌<◌}
use native.Mathlib.Nat.{add-suc, add-zero, le_of_suc-le-suc, suc-add}
use native.Mathlib.Numerals.{add-one}
use native.Mathlib.Omega.{arith}
use mathlib.Core.List.{List, [], ◌∷◌, ◌++◌, append_assoc, append-nil}
use mathlib.Core.Path.{◌≡◌, ap}
use lib.ListN.{get_or, length, take}
use lib.Seq.{take_all}
use Rattle.sheet_lines.specs.Lines.{waiter_line, waiter_lines}
use Rattle.head_attempt.specs.declared.WaiterSlot.{WaiterSlot}

one_more : (ss : List WaiterSlot) (n i : ℕ) (d : WaiterSlot) → i < length ss → waiter_lines n (take (suc i) ss) ≡ waiter_lines n (take i ss) ++ waiter_line (n + i) (get_or ss i d).waiter
unfolding waiter_lines
one_more [] n i d h = absurd (omega arith)
one_more (s ∷ ss) n zero d h = rw add-zero (append-nil (waiter_line n s.waiter))
one_more (s ∷ ss) n (suc i) d h = rw (append_assoc, add-suc, ← suc-add n i) (ap (λ (r : List ℕ). waiter_line n s.waiter ++ r) (one_more ss (suc n) i d (le_of_suc-le-suc h)))

module _ (ss : List WaiterSlot) (i : ℕ) where
  pub waiters_more : (d : WaiterSlot) → i < length ss → waiter_lines 0 (take i ss) ++ waiter_line i (get_or ss i d).waiter ≡ waiter_lines 0 (take (i + 1) ss)
  waiters_more d h =
      let e : 0 + i ≡ i = omega arith in
      rw (add-one i, one_more ss 0 i d h, e)

  pub waiters_all : length ss ≤ i → waiter_lines 0 (take i ss) ≡ waiter_lines 0 ss
  waiters_all h = rw (take_all i ss h)
