-- The digits one after the other.
use Rattle.std.proofs.Common.{◌∙◌}
use Rattle.text.proofs.DecimalRead.{more_bad, read_start, read_bad}
use Rattle.text.proofs.Digits.{on_more, on_bad, on_done}
use Rattle.text_decimal.proofs.read_decimal.Goals as goal

pub returns-in_err-n : goal.returns-in_err-n
returns-in_err-n c = c.from_residual-in_err-n.ensures ∙ read_bad _ _ _ c.in_ok-first.ensures.cases.0 _ c.first_digit.ensures c.in_err-n.was

pub loop-b-init : goal.loop-b-init
loop-b-init c = read_start _ _ _ c.in_ok-first.ensures.cases.0 _ c.first_digit.ensures _ c.in_ok-n.was

pub returns-in_err-n-2 : goal.returns-in_err-n-2
returns-in_err-n-2 c = c.from_residual-in_err-n-2.ensures ∙ search (on_bad, more_bad, c.in_err-n-2.was, c.one_more.ensures)

pub loop-b-preserved : goal.loop-b-preserved
loop-b-preserved c = search (on_more, c.in_ok-n-2.was, c.one_more.ensures)

pub returns : goal.returns
returns c = search on_done
