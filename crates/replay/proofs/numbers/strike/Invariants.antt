-- What is still to be put makes the text that was promised.
use Rattle.std.proofs.Common.{length, ◌-◌}
use Rattle.replay.proofs.Striking.{Strikes}
use Rattle.replay.proofs.numbers.strike.Given as goal

abbrev pub invariant-loop-at : goal.invariant-loop-at
invariant-loop-at l = Strikes l.text l.initial.out l.out l.at l.written

abbrev pub decreases-loop-at : goal.decreases-loop-at
decreases-loop-at l = length l.text - l.at
