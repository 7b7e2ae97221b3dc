-- None of the waiters before is parked.
use Rattle.sheet_rules.proofs.Waiters.{Passed}
use Rattle.sheet_rules.proofs.none_parked.Given as goal

abbrev pub invariant-loop-slot : goal.invariant-loop-slot
invariant-loop-slot l = Passed l.waiters l.slot-index
