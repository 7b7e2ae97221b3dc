-- The answers were written.
use Rattle.std.proofs.Common.{sym, ◌∙◌}
use Rattle.runner.proofs.Answering.{not_err, written}
use Rattle.runner.proofs.answer.answer_some.Goals as goal

pub returns-else-is_err : goal.returns-else-is_err
returns-else-is_err g c =
    written _ _ _ _ _ _ _ _ c.feed-fed.ensures (not_err c.write_all.result _ (sym c.is_err.ensures.value ∙ c.if-is_err.false) c.write_all.ensures.bytes)
