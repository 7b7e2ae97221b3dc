-- Document 01, "Calls and answers", "Turned away by the state": what is promised of a claim and of the plan of an apply, each the next
-- lifecycle beside an answer or a refusal.
use Rattle.std.specs.Prelude.{[], ◌∷◌, ◌≡◌, Result, Ok, Err}
use Rattle.head_values.specs.Said.{Said, accepted}
use Rattle.head_values.specs.Values.{Value}
use Rattle.head_values.specs.Words.{Word}
use Rattle.head_count.specs.declared.Epoch.{Epoch}
use Rattle.head_ready.specs.Said.{outcome_said}
use Rattle.head_ready.specs.declared.HeadOutcome.{HeadOutcome}
use Rattle.head_current.specs.declared.HeadDelivery.{HeadDelivery}
use Rattle.head_life.specs.declared.ApplyPlan.{ApplyPlan}
use Rattle.head_life.specs.declared.HeadLifecycle.{HeadLifecycle}

-- `(claimed EPOCH)`
abbrev pub claimed_said : Epoch → Said Epoch
claimed_said e = accepted e Word.claimed (Value.number e.0 ∷ [])

-- the epoch that is claimed, or the refusal: 11, 13 or 14
unfoldable pub start_said : Result Epoch HeadOutcome → Result (Said Epoch) (Said HeadOutcome)
start_said (Ok e) = Ok (claimed_said e)
start_said (Err o) = Err (outcome_said o)

pub record Starts (got expected : HeadLifecycle × Result Epoch HeadOutcome) : Type 0 where
  pub life : got.0 ≡ expected.0
  pub start : start_said got.1 ≡ start_said expected.1

-- the delivery that an apply goes on with, or the refusal: 11, 12 or 13
unfoldable pub plan_said : ApplyPlan → Result HeadDelivery (Said HeadOutcome)
plan_said (ApplyPlan.Admitted held) = Ok held
plan_said (ApplyPlan.Refused o) = Err (outcome_said o)

pub record Plans (got expected : HeadLifecycle × ApplyPlan) : Type 0 where
  pub life : got.0 ≡ expected.0
  pub plan : plan_said got.1 ≡ plan_said expected.1
