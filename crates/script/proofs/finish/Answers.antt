-- A line is held and can be answered, or nothing is written.
use Rattle.std.proofs.Common.{sym}
use Rattle.std.proofs.Math.Seq.{length-take-le}
use Rattle.script.proofs.Ending.{last_line, lent_room, none_held, not_lent}
use Rattle.script.proofs.finish.Goals as goal

pub slice_bounds-print_line-end : goal.slice_bounds-print_line-end
slice_bounds-print_line-end c = sym (length-take-le _ _ (lent_room _ _ _ _ c.usable.ensures c.if-usable.true))

pub returns-then-usable : goal.returns-then-usable
returns-then-usable c = last_line _ _ _ _ _ c.usable.ensures c.if-usable.true c.if-held-gt0.true _ _ c.print_line.ensures

pub returns-else-usable : goal.returns-else-usable
returns-else-usable c = not_lent _ _ _ _ _ c.usable.ensures c.if-usable.false

pub returns-else-held-gt0 : goal.returns-else-held-gt0
returns-else-held-gt0 c = none_held _ _ _ _ c.if-held-gt0.false
