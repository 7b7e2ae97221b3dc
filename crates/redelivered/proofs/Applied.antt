-- An apply that settles installs its ticket's block, under the ticket's number, with its handle and the readiness of its
-- outcome; and where it carried, what was installed is previous.
use Prim.Native.Nat.{ℕ}
use mathlib.Core.Path.{◌≡◌, sym}
use Rattle.std.proofs.lemmas.Bool.{cond_both}
use Rattle.std.specs.Prelude.{Option, None, Some, not}
use Rattle.head_values.specs.Anchors.{holds, same_anchor}
use Rattle.head_values.specs.Lists.{as_prepared}
use Rattle.head_values.specs.declared.BalSkip.{BalSkip}
use Rattle.head_values.specs.declared.CarryOutcome.{CarryOutcome}
use Rattle.head_values.specs.declared.PreparedBal.{PreparedBal}
use Rattle.head_values.specs.declared.ReadAnchor.{ReadAnchor}
use Rattle.head_count.specs.declared.Seq.{Seq}
use Rattle.head_ready.specs.Generations.{slot_anchor}
use Rattle.head_ready.specs.declared.Generation.{Generation}
use Rattle.head_ready.specs.declared.HeadOutcome.{HeadOutcome}
use Rattle.head_current.specs.Heads.{delivery, has_ticket}
use Rattle.head_current.specs.declared.HeadDelivery.{HeadDelivery}
use Rattle.head_current.specs.declared.HeadTicket.{HeadTicket}
use Rattle.head_life.specs.Apply.{plan_apply, plan_held, previous_after, record_settle, settled_readiness}
use Rattle.head_life.specs.declared.ApplyPlan.{ApplyPlan}
use Rattle.head_life.specs.declared.HeadLifecycle.{HeadLifecycle}
use Rattle.head_driver.specs.Moved.{moved}
use Rattle.head_driver.specs.declared.Answer.{Answer}
use Rattle.head_driver.specs.declared.Driver.{Driver}
use Rattle.head_driver.specs.declared.Reply.{Reply}
use Rattle.head_calls.specs.Apply.{apply, apply_planned, apply_settled}
use Rattle.head_call.specs.declared.Call.{Call}
use Rattle.head_step.specs.Steps.{step}
use Rattle.alike.proofs.Tests.{true_from_not_false}
use Rattle.rules.proofs.Conditions.{ticket_is}
use Rattle.redelivered.proofs.Settles.{generations}

-- two answers that tell of a settle tell one outcome
told_same : {x o : CarryOutcome} → Answer.Outcome (HeadOutcome.Settled x) ≡ Answer.Outcome (HeadOutcome.Settled o) → x ≡ o
told_same p = cc

module _ (d : Driver) (ticket : HeadTicket) (handle : ℕ) (o : CarryOutcome) where
  abbrev pub settled_as : ReadAnchor → Seq → CarryOutcome → Option Generation × Option Generation
  settled_as a n x =
      (Some (record { anchor = a; handle = handle; seq = n; readiness = settled_readiness x }), previous_after d.life.installed x)

  -- a reply that tells of that settle leaves what is installed, and what is previous, so
  abbrev Installs : Reply → Type 0
  Installs r =
      r.answer ≡ Answer.Outcome (HeadOutcome.Settled o) → generations r.driver.life ≡ settled_as ticket.anchor ticket.seq o

  disagrees : {X : Type 0} → Answer.ListDisagrees ≡ Answer.Outcome (HeadOutcome.Settled o) → X
  disagrees p = cc

  superseded : {X : Type 0} {a : ReadAnchor} → Answer.Outcome (HeadOutcome.Superseded a) ≡ Answer.Outcome (HeadOutcome.Settled o) → X
  superseded p = cc

  foreign : {X : Type 0} {a b : ReadAnchor} → Answer.Outcome (HeadOutcome.Foreign a b) ≡ Answer.Outcome (HeadOutcome.Settled o) → X
  foreign p = cc

  already : {X : Type 0} → Answer.Outcome HeadOutcome.AlreadySettled ≡ Answer.Outcome (HeadOutcome.Settled o) → X
  already p = cc

  same : (held : HeadDelivery) (x : CarryOutcome) → (ticket.anchor ≡ held.anchor) × (ticket.seq ≡ held.seq)
      → Answer.Outcome (HeadOutcome.Settled x) ≡ Answer.Outcome (HeadOutcome.Settled o)
      → settled_as held.anchor held.seq x ≡ settled_as ticket.anchor ticket.seq o
  same held x e p = λ j. settled_as (sym e.0 j) (sym e.1 j) (told_same p j)

  module _ (skip : BalSkip) (carried report : ℕ) where
    abbrev InstallsPlan : HeadLifecycle × ApplyPlan → Type 0
    InstallsPlan r = Installs (apply_planned d r.0 r.1 skip handle carried report)

    plan_installs : (s : Option HeadDelivery) (list : ReadAnchor) → InstallsPlan (plan_held s d.life ticket list)
    unfolding plan_held apply_planned apply_settled moved record_settle
    plan_installs None list = superseded
    plan_installs (Some held) list =
        cond_both (not (has_ticket held ticket)) _ _ InstallsPlan (λ e. superseded)
        (λ e. cond_both (not (same_anchor list held.anchor)) _ _ InstallsPlan (λ f. foreign)
        (λ f. cond_both (holds (slot_anchor d.life.installed) held.anchor) _ _ InstallsPlan (λ h. already)
        (λ h p. same held _ (ticket_is held ticket (true_from_not_false _ e)) p)))

  pub apply_installs : (list : PreparedBal) (carried report : ℕ) → Installs (step d (Call.Apply ticket list handle carried report))
  unfolding step apply plan_apply
  apply_installs list carried report =
      cond_both (not (as_prepared list)) _ _ Installs (λ e. disagrees) (λ e. plan_installs list.skip carried report (delivery d.life.current) list.anchor)
