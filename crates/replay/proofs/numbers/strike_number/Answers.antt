-- What stands before the word is put, and then what stands behind it.
use Rattle.replay.proofs.Striking.{two_parts}
use Rattle.replay.proofs.numbers.strike_number.Goals as goal

pub returns-clause-wrote : goal.returns-clause-wrote
returns-clause-wrote c = search two_parts
