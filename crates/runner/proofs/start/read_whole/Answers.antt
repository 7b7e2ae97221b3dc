-- One read more.
use Rattle.std.proofs.Common.{rules}
use Rattle.runner.proofs.Wholes.{one_read}
use Rattle.runner.proofs.start.read_whole.Goals as goal

pub loop-at-preserved : goal.loop-at-preserved
loop-at-preserved g c = one_read _ _ _ _ _ _ _ _ c.loop-at.invariant (search rules) (search rules) (search rules)
