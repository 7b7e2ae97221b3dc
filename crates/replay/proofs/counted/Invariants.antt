-- There are never more differences than answers.
use Rattle.std.proofs.Common.{◌≤◌}
use Rattle.replay.proofs.counted.Given as goal

abbrev pub invariant-loop : goal.invariant-loop
invariant-loop g l = l.now.standing.tally.differences ≤ l.now.standing.tally.answers
