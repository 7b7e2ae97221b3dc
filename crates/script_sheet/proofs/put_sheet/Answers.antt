-- The sheet at the front, or nothing.
use Rattle.std.proofs.Common.{arith, refl, rules}
use Rattle.script_value.proofs.Fronts.{at_front, too_short}
use Rattle.text_put.specs.Writers.{wrote}
use Rattle.script_sheet.proofs.put_sheet.Goals as goal

pub returns-then-buf-lt4096 : goal.returns-then-buf-lt4096
returns-then-buf-lt4096 c = too_short 4096 _ _ c.if-buf-lt4096.true

pub returns : goal.returns
unfolding wrote
returns c = at_front 4096 _ _ _ _ _ c.put_lines.ensures refl refl (search rules) c.if-buf-lt4096.false (omega arith)
