-- The digits so far and those that are left make the number of them all.
use Rattle.std.proofs.Common.{◌≡◌, drop}
use Rattle.hash_read.specs.Values.{number_on}
use Rattle.hash_read.proofs.number.Given as goal

abbrev pub invariant-loop-v : goal.invariant-loop-v
invariant-loop-v l = number_on l.n (drop l.v-index l.values) ≡ number_on 0 l.values
