-- What was read, answered and written so far.
use Rattle.runner.proofs.Answering.{Reads}
use Rattle.runner.proofs.answer.answer_input.Given as goal

abbrev pub invariant-loop : goal.invariant-loop
invariant-loop g l =
    Reads l.fn.driver (g.R.Read.remaining l.initial.input) (g.W.Write.contents l.initial.out) l.pending l.now
    (g.R.Read.remaining l.input) (g.W.Write.contents l.out)
