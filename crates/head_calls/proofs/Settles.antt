-- An apply that nothing turns away, from what its steps give.
use Prim.Native.Nat.{ℕ}
use mathlib.Core.Path.{◌≡◌, refl, ◌∙◌}
use Rattle.std.specs.Prelude.{Bool, true, not, cond}
use Rattle.head_values.specs.Lists.{apply_prepared}
use Rattle.head_values.specs.declared.BalSkip.{BalSkip}
use Rattle.head_values.specs.declared.CarryOutcome.{CarryOutcome}
use Rattle.head_ready.specs.Generations.{slot_anchor}
use Rattle.head_current.specs.declared.HeadDelivery.{HeadDelivery}
use Rattle.head_life.specs.declared.ApplyPlan.{ApplyPlan}
use Rattle.head_life.specs.declared.HeadLifecycle.{HeadLifecycle}
use Rattle.head_driver.specs.declared.Driver.{Driver}
use Rattle.head_driver.specs.declared.Reply.{Reply}
use Rattle.head_calls.specs.Apply.{apply_planned, apply_settled}

module _ (d : Driver) (held : HeadDelivery) (skip : BalSkip) (handle carried report : ℕ) where
  pub settles : (prepared : Bool) (refused : Reply) (life l : HeadLifecycle) (plan : ApplyPlan) (outcome : CarryOutcome) (reply : Reply)
      → prepared ≡ true → life ≡ l → plan ≡ ApplyPlan.Admitted held
      → outcome ≡ apply_prepared (slot_anchor life.installed) held.anchor held.parent_hash skip carried
      → reply ≡ apply_settled d life held outcome handle report
      → reply ≡ cond (not prepared) refused (apply_planned d l plan skip handle carried report)
  unfolding apply_planned
  settles prepared refused life l plan outcome reply t e p o r = r ∙ rw (t, p, o, e) refl
