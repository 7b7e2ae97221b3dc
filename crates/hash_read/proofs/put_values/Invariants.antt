-- The values of the first `i` digits are laid, with the highest of them.
use Rattle.hash_read.proofs.Values.{Laid}
use Rattle.hash_read.proofs.put_values.Given as goal

abbrev pub invariant-loop-i : goal.invariant-loop-i
invariant-loop-i l = Laid l.word l.values l.most l.i
