-- The line at the front, or nothing.
use Rattle.std.proofs.Common.{arith, refl, rules}
use Rattle.script_value.proofs.Fronts.{at_front, too_short}
use Rattle.text_put.specs.Writers.{wrote}
use Rattle.script_answer.proofs.put_line.Goals as goal

pub returns-then-buf-lt512 : goal.returns-then-buf-lt512
returns-then-buf-lt512 c = too_short 512 _ _ c.if-buf-lt512.true

pub returns : goal.returns
unfolding wrote
returns c = at_front 512 _ _ _ _ _ c.put_line_text.ensures refl refl (search rules) c.if-buf-lt512.false (omega arith)
