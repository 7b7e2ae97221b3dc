-- What has been answered of the input so far.
use Rattle.std.proofs.Common.{length, ◌-◌}
use Rattle.runner.proofs.Answering.{Going}
use Rattle.runner.proofs.answer.answer_all.Given as goal

abbrev pub invariant-loop-at : goal.invariant-loop-at
invariant-loop-at g l = Going l.initial.fed.driver l.initial.pending l.held l.input (g.W.Write.contents l.initial.out) l.pending l.fed l.at
    (g.W.Write.contents l.out)

abbrev pub decreases-loop-at : goal.decreases-loop-at
decreases-loop-at g l = length l.input - l.at
