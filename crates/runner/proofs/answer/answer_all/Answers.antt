-- The loop: part after part, until all is answered or a write failed.
use Rattle.std.proofs.Common.{rules}
use Rattle.runner.proofs.Answering.{going_first, going_on}
use Rattle.runner.proofs.answer.answer_all.Goals as goal

pub loop-at-init : goal.loop-at-init
loop-at-init g c = going_first _ _ _ _ _

pub loop-at-preserved : goal.loop-at-preserved
loop-at-preserved g c =
    going_on _ _ _ _ _ _ _ _ _ c.loop-at.invariant _ c.answer_some-next.result _ c.answer_some-next.ensures c.if-next-eq0.false
    (search rules)
