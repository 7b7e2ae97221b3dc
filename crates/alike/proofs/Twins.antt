-- Two drivers that keep the invariant and answer alike; so do the drivers that a call leaves of them.
use mathlib.Core.List.{List, [], ◌∷◌}
use mathlib.Core.Path.{◌≡◌, sym, ap}
use Rattle.head_step.specs.Steps.{step}
use Rattle.head_driver.specs.declared.Answer.{Answer}
use Rattle.head_driver.specs.declared.Driver.{Driver}
use Rattle.head_call.specs.declared.Call.{Call}
use Rattle.alike.proofs.Kept.{kept}
use Rattle.alike.specs.Invariant.{Invariant}
use Rattle.head_call.specs.Ranges.{Writable}
use Rattle.alike.specs.Runs.{answers}
use Rattle.alike.specs.Statements.{SameAnswers}

pub record Twin (d₁ d₂ : Driver) : Type 0 where
  pub same_answers : SameAnswers d₁ d₂
  pub invariant₁ : Invariant d₁
  pub invariant₂ : Invariant d₂

pub twin_sym : {d₁ d₂ : Driver} → Twin d₁ d₂ → Twin d₂ d₁
twin_sym w = record { same_answers = λ cs r. sym (w.same_answers cs r); invariant₁ = w.invariant₂; invariant₂ = w.invariant₁ }

abbrev first_or : Answer → List Answer → Answer
first_or a [] = a
first_or a (b ∷ bs) = b

abbrev rest : List Answer → List Answer
rest [] = []
rest (b ∷ bs) = bs

module _ {d₁ d₂ : Driver} (w : Twin d₁ d₂) (c : Call) (r : Writable c) where
  pub twin_answer : (step d₁ c).answer ≡ (step d₂ c).answer
  unfolding answers
  twin_answer = ap (first_or Answer.Done) (w.same_answers (c ∷ []) (r, tt))

  pub twin_step : Twin (step d₁ c).driver (step d₂ c).driver
  unfolding answers
  twin_step = record { same_answers = λ cs rs. ap rest (w.same_answers (c ∷ cs) (r, rs)); invariant₁ = kept d₁ c w.invariant₁ r; invariant₂ = kept d₂ c w.invariant₂ r }
