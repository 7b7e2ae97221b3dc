-- The line is taken, and its answer is put over the same buffer.
use Rattle.script.proofs.Printing.{prints_line}
use Rattle.script.proofs.line.print_line.Goals as goal

pub returns : goal.returns
returns c = prints_line c.args.d c.args.out.now c.requires _ _ _ _ _ c.take_line-turn.ensures c.put_answer-written.ensures
