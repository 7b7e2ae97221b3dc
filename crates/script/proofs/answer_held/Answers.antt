-- The part of the buffer from the place on takes the line's answer.
use Rattle.std.proofs.Common.{rules}
use Rattle.script.proofs.Placing.{answers_held, sum_fits}
use Rattle.script.proofs.answer_held.Goals as goal

pub overflow_add-fed : goal.overflow_add-fed
overflow_add-fed c = sum_fits c.args.out.now c.args.fed.written c.requires.written_in_bounds _ _ _ _ c.print_line-printed.auto.out c.print_line-printed.ensures (search rules)

pub returns : goal.returns
returns c = answers_held _ _ _ _ _ c.requires.written_in_bounds c.print_line-printed.auto.out c.print_line-printed.ensures
