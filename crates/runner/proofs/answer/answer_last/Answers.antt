-- The last answer is written.
use Rattle.script.proofs.Fits.{printed_count, printed_fits}
use native.Mathlib.Omega.{arith}
use Rattle.std.proofs.Common.{sym, ◌∙◌}
use Rattle.runner.proofs.Answering.{last_written, ok}
use Rattle.runner.proofs.answer.answer_last.Goals as goal

pub slice_bounds-answers-end : goal.slice_bounds-answers-end
slice_bounds-answers-end g c = printed_fits _ _ _ _ _ c.finish-printed.ensures

pub slice_bounds-write_all-end : goal.slice_bounds-write_all-end
slice_bounds-write_all-end g c = printed_count _ _ _ _ _ c.finish-printed.ensures

pub returns : goal.returns
returns g c =
    λ t. last_written _ _ _ _ _ _ (omega arith) c.finish-printed.ensures (ok c.write_all.result _ (sym c.is_ok.ensures.value
    ∙ t) c.write_all.ensures.bytes)
