-- No waiter is parked, one after another.
use Prim.Native.Nat.{ℕ, zero, suc, ◌+◌, ◌≤◌, ◌<◌}
use native.Mathlib.Nat.{not-suc-le-zero}
use native.Mathlib.Omega.{arith}
use mathlib.Core.Bool.{true, false}
use mathlib.Core.List.{List, [], ◌∷◌}
use mathlib.Core.Path.{◌≡◌, refl}
use lib.ListN.{length, take, get_or}
use Rattle.std.proofs.lemmas.List.{take_all}
use Rattle.std.specs.Prelude.{◌↔◌}
use Rattle.head_attempt.specs.declared.WaiterSlot.{WaiterSlot}
use Rattle.alike.specs.Invariant.{NoneParked, NotParked}

-- the first i are not
abbrev pub Passed : List WaiterSlot → ℕ → Type 0
Passed ws i = NoneParked (take i ws)

pub one_more : (ws : List WaiterSlot) (i : ℕ) (d : WaiterSlot) → i < length ws → Passed ws i → NotParked (get_or ws i d).waiter
    → Passed ws (i + 1)
one_more [] i d h p n = absurd (not-suc-le-zero h)
one_more (w ∷ ws) zero d h p n = (n, tt)
one_more (w ∷ ws) (suc i) d h p n =
    let k : suc i + 1 ≡ suc (i + 1) = omega arith in
    rw k (p.0, one_more ws i d (omega arith) p.1 n)

pub all_passed : (ws : List WaiterSlot) (i : ℕ) → length ws ≤ i → Passed ws i → (true ≡ true) ↔ NoneParked ws
all_passed ws i h p = (λ t. rw (take_all i ws h) at p, λ n. refl)

here : (ws : List WaiterSlot) (i : ℕ) (d : WaiterSlot) → i < length ws → NoneParked ws → NotParked (get_or ws i d).waiter
here [] i d h n = absurd (not-suc-le-zero h)
here (w ∷ ws) zero d h n = n.0
here (w ∷ ws) (suc i) d h n = here ws i d (omega arith) n.1

pub one_parked : (ws : List WaiterSlot) (i : ℕ) (d : WaiterSlot) → i < length ws → ¬ (NotParked (get_or ws i d).waiter)
    → (false ≡ true) ↔ NoneParked ws
one_parked ws i d h f = (λ e. cc, λ n. absurd (f (here ws i d h n)))
