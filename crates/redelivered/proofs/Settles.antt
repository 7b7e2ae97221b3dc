-- What is installed and what is previous stay until an apply settles.
use Prim.Native.Nat.{ℕ}
use mathlib.Core.List.{List, [], ◌∷◌}
use mathlib.Core.Path.{◌≡◌, refl, ◌∙◌}
use Rattle.std.proofs.lemmas.Bool.{cond_both}
use Rattle.std.specs.Prelude.{Option, None, Some, Result, ltb, not, ◌||◌}
use Rattle.hash.specs.declared.Hash.{Hash}
use Rattle.head_values.specs.Anchors.{holds, same_anchor}
use Rattle.head_values.specs.Lists.{as_prepared}
use Rattle.head_values.specs.declared.BalSkip.{BalSkip}
use Rattle.head_values.specs.declared.ReadAnchor.{ReadAnchor}
use Rattle.head_count.specs.declared.Epoch.{Epoch}
use Rattle.head_count.specs.declared.Seq.{Seq}
use Rattle.head_attempt.specs.declared.Waiter.{Waiter}
use Rattle.head_ready.specs.Generations.{slot_anchor}
use Rattle.head_ready.specs.declared.Generation.{Generation}
use Rattle.head_ready.specs.declared.HeadOutcome.{HeadOutcome}
use Rattle.head_current.specs.Heads.{delivery, has_ticket, is_preparing, is_settled, preparing_at}
use Rattle.head_current.specs.declared.HeadDelivery.{HeadDelivery}
use Rattle.head_current.specs.declared.HeadTicket.{HeadTicket}
use Rattle.head_life.specs.Apply.{plan_apply, plan_held}
use Rattle.head_life.specs.Claim.{claim_held, claim_life}
use Rattle.head_life.specs.Deliver.{deliver_life, repeats}
use Rattle.head_life.specs.Release.{release_life}
use Rattle.head_life.specs.State.{counted, view_counted}
use Rattle.head_life.specs.declared.ApplyPlan.{ApplyPlan}
use Rattle.head_life.specs.declared.HeadLifecycle.{HeadLifecycle}
use Rattle.head_driver.specs.Moved.{moved}
use Rattle.head_driver.specs.Parts.{with_life}
use Rattle.head_driver.specs.declared.Driver.{Driver}
use Rattle.head_driver.specs.declared.Reply.{Reply}
use Rattle.head_calls.specs.Apply.{apply, apply_planned, apply_settled}
use Rattle.head_calls.specs.Claim.{claim}
use Rattle.head_calls.specs.Deliver.{deliver}
use Rattle.head_calls.specs.Release.{release}
use Rattle.head_waits.specs.Parts.{put, waiter_at}
use Rattle.head_waits.specs.Snapshot.{snapshot, viewed}
use Rattle.head_waits.specs.Waits.{resume, resume_as, view_frees, wait, wait_as, waits_anew}
use Rattle.head_asks.specs.Asks.{completion, heads, link, last_report, stats}
use Rattle.head_call.specs.declared.Call.{Call}
use Rattle.head_step.specs.Steps.{step}
use Rattle.script_answer.specs.declared.LineAnswer.{LineAnswer}
use Rattle.script_call.specs.Calls.{call}
use Rattle.script_call.specs.declared.LineCall.{LineCall}
use Rattle.driver.specs.Turns.{made, turn_of}
use Rattle.rules.specs.Runs.{Entry, after, turn_at}
use Rattle.redelivered.specs.Statements.{NoneSettles, NotSettled}

-- what is installed, and what is previous
abbrev pub generations : HeadLifecycle → Option Generation × Option Generation
generations l = (l.installed, l.previous)

-- whether the delivery repeats the current head or is new, both stay
pub delivery_keeps : (d : Driver) (a : ReadAnchor) (p : Hash) (cold : ℕ)
    → generations (deliver d a p cold).driver.life ≡ generations d.life
unfolding deliver deliver_life moved counted
delivery_keeps d a p cold =
    cond_both (repeats (delivery d.life.current) a p) _ _ (λ (r : HeadLifecycle × Seq). generations r.0 ≡ generations d.life)
    (λ e. refl) (λ e. refl)

module _ (d : Driver) where
  -- a reply that does not tell of a settle keeps both
  abbrev Keeps : Reply → Type 0
  Keeps r = NotSettled (LineAnswer.Said r.answer) → generations r.driver.life ≡ generations d.life

  abbrev KeepsLife : HeadLifecycle × Result Epoch HeadOutcome → Type 0
  KeepsLife r = generations r.0 ≡ generations d.life

  claim_keeps : (s : Option HeadDelivery) (ticket : HeadTicket) → KeepsLife (claim_held s d.life ticket)
  unfolding claim_held
  claim_keeps None ticket = refl
  claim_keeps (Some held) ticket =
      cond_both (not (has_ticket held ticket)) _ _ KeepsLife (λ e. refl)
      (λ e. cond_both (holds (slot_anchor d.life.installed) held.anchor || is_settled d.life.current) _ _ KeepsLife (λ e. refl)
      (λ e. cond_both (is_preparing d.life.current) _ _ KeepsLife (λ e. refl) (λ e. refl)))

  module _ (skip : BalSkip) (handle carried report : ℕ) where
    abbrev KeepsPlan : HeadLifecycle × ApplyPlan → Type 0
    KeepsPlan r = Keeps (apply_planned d r.0 r.1 skip handle carried report)

    plan_keeps : (s : Option HeadDelivery) (ticket : HeadTicket) (list : ReadAnchor) → KeepsPlan (plan_held s d.life ticket list)
    unfolding plan_held apply_planned apply_settled with_life counted
    plan_keeps None ticket list = λ n. refl
    plan_keeps (Some held) ticket list =
        cond_both (not (has_ticket held ticket)) _ _ KeepsPlan (λ e n. refl)
        (λ e. cond_both (not (same_anchor list held.anchor)) _ _ KeepsPlan (λ e n. refl)
        (λ e. cond_both (holds (slot_anchor d.life.installed) held.anchor) _ _ KeepsPlan (λ e n. refl) (λ e n. absurd (n _ refl))))

  anew_keeps : (n : ℕ) (a : ReadAnchor) (spare : ℕ) → Keeps (waits_anew d n a spare)
  unfolding waits_anew view_frees viewed with_life view_counted put
  anew_keeps n a spare = cond_both (preparing_at d.life.current a) _ _ Keeps (λ e s. refl) (λ e s. refl)

  wait_keeps : (n : ℕ) (a : ReadAnchor) (spare : ℕ) (w : Waiter) → Keeps (wait_as d n a spare w)
  unfolding wait_as
  wait_keeps n a spare Waiter.Free = anew_keeps n a spare
  wait_keeps n a spare Waiter.Parked = λ s. refl
  wait_keeps n a spare (Waiter.Abandoned b) = λ s. refl
  wait_keeps n a spare (Waiter.Ended b) = λ s. refl

  resume_keeps : (n spare : ℕ) (w : Waiter) → Keeps (resume_as d n spare w)
  unfolding resume_as view_frees viewed with_life view_counted put
  resume_keeps n spare Waiter.Free = λ s. refl
  resume_keeps n spare Waiter.Parked = λ s. refl
  resume_keeps n spare (Waiter.Abandoned b) = λ s. refl
  resume_keeps n spare (Waiter.Ended b) = anew_keeps n b spare

  -- every call
  call_keeps : (c : Call) → Keeps (step d c)
  unfolding step claim claim_life release release_life moved apply plan_apply snapshot viewed with_life view_counted wait resume completion link last_report stats heads
  call_keeps (Call.Deliver a p cold) = λ s. delivery_keeps d a p cold
  call_keeps (Call.Claim ticket) = λ s. claim_keeps (delivery d.life.current) ticket
  call_keeps (Call.Release owner) = λ s. refl
  call_keeps (Call.Apply ticket list handle carried report) =
      cond_both (not (as_prepared list)) _ _ Keeps (λ e s. refl) (λ e. plan_keeps list.skip handle carried report (delivery d.life.current) ticket list.anchor)
  call_keeps (Call.Snapshot a spare) = λ s. refl
  call_keeps (Call.Wait n a spare) = cond_both (ltb 15 n) _ _ Keeps (λ e s. refl) (λ e. wait_keeps n a spare (waiter_at d.waiters n))
  call_keeps (Call.Resume n spare) = cond_both (ltb 15 n) _ _ Keeps (λ e s. refl) (λ e. resume_keeps n spare (waiter_at d.waiters n))
  call_keeps (Call.Completion a) = λ s. refl
  call_keeps (Call.Link parent child parent_hash) = λ s. refl
  call_keeps Call.Report = λ s. refl
  call_keeps Call.Stats = λ s. refl
  call_keeps Call.Heads = λ s. refl

  -- every line
  line_keeps : (q : Option LineCall) (buffer : List ℕ) → NotSettled (turn_of d q buffer).answer
      → generations (turn_of d q buffer).driver.life ≡ generations d.life
  unfolding turn_of made
  line_keeps None buffer s = refl
  line_keeps (Some LineCall.Sheet) buffer s = refl
  line_keeps (Some (LineCall.Make c)) buffer s = call_keeps c s

-- and so every list of lines among which no apply settles
pub lines_keep_both : (d : Driver) (es : List Entry) → NoneSettles d es → generations (after d es).life ≡ generations d.life
unfolding after
lines_keep_both d [] n = refl
lines_keep_both d (e ∷ es) n = lines_keep_both (turn_at d e).driver es n.1 ∙ line_keeps d (call e.line) e.buffer n.0
