-- A buffer is too short: the sheet's or the answer's.
use mathlib.Core.Logic.{inl, inr}
use Rattle.temsroi.specs.Calls.{Calls}
use Rattle.temsroi.proofs.temsroi_call.Goals as goal
use Rattle.temsroi.proofs.temsroi_call.Goals.{then-sheet-lt4096-via-then-sheet-lt4096, then-sheet-lt4096-via-else-sheet-lt4096+then-answer-lt512}

pub returns-then-sheet-lt4096 : goal.returns-then-sheet-lt4096
returns-then-sheet-lt4096 c =
    Calls.too_short (elim c.then-sheet-lt4096.branch [
      | then-sheet-lt4096-via-then-sheet-lt4096 w ↦ inl w.if-sheet-lt4096.true
      | then-sheet-lt4096-via-else-sheet-lt4096+then-answer-lt512 w ↦ inr w.if-answer-lt512.true
    ])
