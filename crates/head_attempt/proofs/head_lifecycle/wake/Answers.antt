-- One more waiter is woken.
use Rattle.std.proofs.Common.{arith, rules}
use Rattle.std.proofs.lemmas.List.{length-set}
use Rattle.head_attempt.proofs.Wakes.{wake_more, wake_all}
use Rattle.head_attempt.proofs.head_lifecycle.wake.Goals as goal

pub loop-slot-preserved : goal.loop-slot-preserved
loop-slot-preserved c = (rw length-set c.loop-slot.invariant.0, wake_more _ _ _ _ c.loop-slot.slot-index c.loop-slot.invariant.1 _ _ (omega arith) c.woken-slot.ensures)

pub returns : goal.returns
returns c = search (rules, wake_all, c.loop-slot.invariant.1)
