-- What is counted moves as each record moves it.
use Rattle.std.proofs.Common.{length, ◌-◌}
use Rattle.replay.specs.Recordings.{Counts}
use Rattle.replay.proofs.lines_taken.Given as goal

abbrev pub invariant-loop-at : goal.invariant-loop-at
invariant-loop-at l = Counts l.initial.now.standing.tally l.now.standing.tally

abbrev pub decreases-loop-at : goal.decreases-loop-at
decreases-loop-at l = length l.input - l.at
