-- The digits so far are at most the number of all.
use Rattle.std.proofs.Common.{arith}
use Rattle.hash_read.proofs.Values.{number_below}
use Rattle.hash_read.proofs.number.Goals as goal

pub overflow_mul-n : goal.overflow_mul-n
overflow_mul-n c = omega (arith, number_below c.args.values.now c.loop-v.n c.loop-v.v-index _ c.loop-v.invariant c.loop-v-test.true)

pub overflow_add-n : goal.overflow_add-n
overflow_add-n c = omega (arith, number_below c.args.values.now c.loop-v.n c.loop-v.v-index _ c.loop-v.invariant c.loop-v-test.true)
