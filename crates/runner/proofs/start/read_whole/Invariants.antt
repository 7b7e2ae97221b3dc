-- What was brought so far.
use Rattle.std.proofs.Common.{length, ◌-◌}
use Rattle.runner.proofs.Wholes.{ReadSoFar}
use Rattle.runner.proofs.start.read_whole.Given as goal

abbrev pub invariant-loop-at : goal.invariant-loop-at
invariant-loop-at g l = ReadSoFar (g.R.Read.remaining l.initial.reader) (g.R.Read.remaining l.reader) l.initial.room l.room l.at

abbrev pub decreases-loop-at : goal.decreases-loop-at
decreases-loop-at g l = length l.room - l.at
