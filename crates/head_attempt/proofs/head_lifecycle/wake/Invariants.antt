-- The first waiters are woken.
use Rattle.std.proofs.Common.{◌≡◌, ◌++◌, length, take, drop, map}
use Rattle.head_attempt.proofs.Wakes.{woken_slot}
use Rattle.head_attempt.proofs.head_lifecycle.wake.Given as goal

abbrev pub invariant-loop-slot : goal.invariant-loop-slot
invariant-loop-slot l = (length l.slot-items ≡ 16) × (l.slot-items ≡ map (woken_slot l.end l.anchor) (take l.slot-index l.fn.waiters) ++ drop l.slot-index l.fn.waiters)
