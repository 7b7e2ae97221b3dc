-- Views and outcomes of which the same is said are the same.
use mathlib.Core.Path.{◌≡◌, refl, ap, sym, ◌∙◌}
use Rattle.head_values.specs.Said.{Said}
use Rattle.head_ready.specs.Said.{outcome_said, view_said}
use Rattle.head_ready.specs.declared.HeadOutcome.{HeadOutcome}
use Rattle.head_ready.specs.declared.HeadView.{HeadView}

pub view_exact : {a b : HeadView} → view_said a ≡ view_said b → a ≡ b
view_exact e = ap (λ (s : Said HeadView). s.case) e

-- the case that is said is the outcome itself
pub outcome_case : (o : HeadOutcome) → (outcome_said o).case ≡ o
unfolding outcome_said
outcome_case (HeadOutcome.Settled o) = refl
outcome_case (HeadOutcome.Superseded a) = refl
outcome_case (HeadOutcome.Foreign list held) = refl
outcome_case HeadOutcome.AlreadySettled = refl
outcome_case HeadOutcome.InFlight = refl

pub outcome_exact : {a b : HeadOutcome} → outcome_said a ≡ outcome_said b → a ≡ b
outcome_exact e = sym (outcome_case _) ∙ ap (λ (s : Said HeadOutcome). s.case) e ∙ outcome_case _
