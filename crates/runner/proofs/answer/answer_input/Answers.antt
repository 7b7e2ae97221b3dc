-- The loop: read after read, to the end of the input.
use native.Mathlib.Omega.{arith}
use Rattle.std.proofs.Common.{rules}
use Rattle.runner.proofs.Answering.{at_end, no_read, one_more}
use Rattle.runner.proofs.answer.answer_input.Goals as goal

pub loop-init : goal.loop-init
loop-init g c = no_read _ _ _ _ (omega arith)

pub returns-then-n-eq0 : goal.returns-then-n-eq0
returns-then-n-eq0 g c =
    λ t. at_end _ _ _ _ _ _ _ _ _ c.loop.invariant _ c.in-Ok.n c.if-n-eq0.true c.in-Ok.ensures.bytes.0 (search rules)
    (c.answer_last-then-n-eq0.ensures t)

pub loop-preserved : goal.loop-preserved
loop-preserved g c = one_more _ _ _ _ _ _ _ _ _ c.loop.invariant _ _ _ c.in-Ok.ensures.bytes.0 c.answer_all-now.ensures c.if-now-eq0.false
