-- What has been taken of the input so far, and printed for it.
use Rattle.std.proofs.Common.{length, ◌-◌}
use Rattle.script.proofs.Feeding.{Going}
use Rattle.script.proofs.feed.Given as goal

abbrev pub invariant-loop-fed : goal.invariant-loop-fed
invariant-loop-fed l = Going l.initial.fed.driver l.initial.pending l.held l.input l.initial.out l.pending l.out l.fed

abbrev pub decreases-loop-fed : goal.decreases-loop-fed
decreases-loop-fed l = length l.input - l.fed.taken
