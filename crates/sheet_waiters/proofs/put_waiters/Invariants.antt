-- The lines of the first `i` waiters are put.
use Rattle.std.proofs.Common.{◌*◌, take}
use Rattle.text_put.specs.Writers.{Puts}
use Rattle.sheet_lines.specs.Lines.{waiter_lines}
use Rattle.sheet_waiters.proofs.put_waiters.Given as goal

abbrev pub invariant-loop-i : goal.invariant-loop-i
invariant-loop-i l = Puts l.initial.out l.out (128 * l.i) (waiter_lines 0 (take l.i l.fn.slots))
