-- The waiters before stand in the array.
use Rattle.sheet_read.proofs.Waiters.{Filled}
use Rattle.sheet_read.proofs.waiter.take_waiters.Given as goal

abbrev pub invariant-loop-n : goal.invariant-loop-n
invariant-loop-n l = Filled l.initial.r l.r l.waiters l.n
