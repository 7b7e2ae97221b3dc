-- One more value is laid.
use Rattle.hash_read.proofs.Values.{laid_more}
use Rattle.hash_read.proofs.put_values.Goals as goal

pub loop-i-preserved : goal.loop-i-preserved
loop-i-preserved c = laid_more _ _ c.loop-i.invariant c.loop-i-test.true c.value_of-v.ensures c.max-most.ensures
