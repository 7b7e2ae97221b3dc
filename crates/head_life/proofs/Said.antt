-- The promise of a claim and of a plan, from the equation; and the equation from the promise.
use mathlib.Core.Path.{◌≡◌, refl, ap, sym, ◌∙◌}
use Rattle.std.specs.Prelude.{Result, Ok, Err}
use Rattle.head_values.specs.Said.{Said}
use Rattle.head_count.specs.declared.Epoch.{Epoch}
use Rattle.head_ready.proofs.Said.{outcome_case}
use Rattle.head_ready.specs.declared.HeadOutcome.{HeadOutcome}
use Rattle.head_current.specs.declared.HeadDelivery.{HeadDelivery}
use Rattle.head_life.specs.Said.{Plans, Starts, plan_said, start_said}
use Rattle.head_life.specs.declared.ApplyPlan.{ApplyPlan}
use Rattle.head_life.specs.declared.HeadLifecycle.{HeadLifecycle}

-- what is said, with the cases alone
start_case : Result (Said Epoch) (Said HeadOutcome) → Result Epoch HeadOutcome
start_case (Ok s) = Ok s.case
start_case (Err s) = Err s.case

start_back : (r : Result Epoch HeadOutcome) → start_case (start_said r) ≡ r
unfolding start_case start_said
start_back (Ok e) = refl
start_back (Err o) = ap (λ (x : HeadOutcome). Err x) (outcome_case o)

plan_case : Result HeadDelivery (Said HeadOutcome) → ApplyPlan
plan_case (Ok held) = ApplyPlan.Admitted held
plan_case (Err s) = ApplyPlan.Refused s.case

plan_back : (p : ApplyPlan) → plan_case (plan_said p) ≡ p
unfolding plan_case plan_said
plan_back (ApplyPlan.Admitted held) = refl
plan_back (ApplyPlan.Refused o) = ap (λ (x : HeadOutcome). ApplyPlan.Refused x) (outcome_case o)

pub starts : {got expected : HeadLifecycle × Result Epoch HeadOutcome} → got ≡ expected → Starts got expected
starts e = record {
  life = ap (λ (r : HeadLifecycle × Result Epoch HeadOutcome). r.0) e;
  start = ap (λ (r : HeadLifecycle × Result Epoch HeadOutcome). start_said r.1) e;
}

pub start_exact : {got expected : Result Epoch HeadOutcome} → start_said got ≡ start_said expected → got ≡ expected
start_exact e = sym (start_back _) ∙ ap start_case e ∙ start_back _

pub plans : {got expected : HeadLifecycle × ApplyPlan} → got ≡ expected → Plans got expected
plans e = record {
  life = ap (λ (r : HeadLifecycle × ApplyPlan). r.0) e;
  plan = ap (λ (r : HeadLifecycle × ApplyPlan). plan_said r.1) e;
}

pub plan_exact : {got expected : ApplyPlan} → plan_said got ≡ plan_said expected → got ≡ expected
plan_exact e = sym (plan_back _) ∙ ap plan_case e ∙ plan_back _
