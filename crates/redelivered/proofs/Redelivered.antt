-- A delivery leaves the installed generation, and a snapshot at its anchor reads it first.
use Rattle.std.specs.Prelude.{Option, Some}
use Prim.Native.Nat.{ℕ}
use mathlib.Core.Path.{◌≡◌, ap, ◌∙◌}
use Rattle.alike.proofs.Tests.{anchor_same}
use Rattle.head_calls.specs.Deliver.{deliver}
use Rattle.head_waits.specs.Snapshot.{snapshot, viewed}
use Rattle.head_step.specs.Steps.{step}
use Rattle.head_life.specs.Views.{generation_view, view}
use Rattle.head_driver.specs.declared.Answer.{Answer}
use Rattle.head_ready.specs.Generations.{view_of}
use Rattle.head_ready.specs.declared.Generation.{Generation}
use Rattle.head_life.specs.declared.HeadLifecycle.{HeadLifecycle}
use Rattle.head_ready.specs.declared.HeadView.{HeadView}
use Rattle.head_ready.specs.declared.Source.{Source}
use Rattle.redelivered.proofs.Settles.{delivery_keeps}
use Rattle.redelivered.specs.Statements.{ShownAsSettled}

-- the first that fits is the installed generation
pub installed_read : (l : HeadLifecycle) (g : Generation) (spare : ℕ) → l.installed ≡ Some g
    → view l g.anchor spare ≡ view_of (Source.Installed g.seq) g.handle g.readiness
unfolding view generation_view
installed_read l g spare e = rw (e, anchor_same g.anchor)

pub shown_as_settled : ShownAsSettled
unfolding step snapshot viewed
shown_as_settled d g e p cold spare =
    let next = (deliver d g.anchor p cold).driver in
    ap (λ (v : HeadView). Answer.View v)
    (installed_read next.life g spare
    (ap (λ (x : Option Generation × Option Generation). x.0) (delivery_keeps d g.anchor p cold) ∙ e))
