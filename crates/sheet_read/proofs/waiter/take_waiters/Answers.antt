-- One waiter more.
use Rattle.sheet_read.proofs.Waiters.{next_filled}
use Rattle.sheet_read.proofs.waiter.take_waiters.Goals as goal

pub loop-n-preserved : goal.loop-n-preserved
loop-n-preserved c =
    let reads = c.in_ok-waiter.ensures in
    next_filled _ _ _ _ c.loop-n.invariant c.loop-n-test.true c.in_ok-waiter.waiter c.take_waiter_at.new.r reads.line reads.value reads.rest
