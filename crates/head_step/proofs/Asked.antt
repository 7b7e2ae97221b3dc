-- Asking a call's input first tells what `step` answers: each call that tests its input gives the same refusal itself, and no other call gives it.
use Rattle.std.proofs.lemmas.Bool.{cond_both}
use Rattle.std.specs.Prelude.{Bool, true, false, ltb, not, cond, None, Some, Result, Ok, Err}
use mathlib.Core.Logic.{◌⊎◌, inl, inr}
use mathlib.Core.Path.{◌≡◌, refl}
use Prim.Native.Nat.{ℕ}
use Rattle.head_values.specs.Lists.{as_prepared}
use Rattle.head_values.specs.declared.BalSkip.{BalSkip}
use Rattle.head_values.specs.declared.ReadAnchor.{ReadAnchor}
use Rattle.head_count.specs.declared.Epoch.{Epoch}
use Rattle.head_attempt.specs.declared.Waiter.{Waiter}
use Rattle.head_ready.specs.declared.HeadOutcome.{HeadOutcome}
use Rattle.head_current.specs.Heads.{preparing_at}
use Rattle.head_call.specs.Inputs.{input_number, input_refusal, list_refusal, refusal_said, waiter_refusal}
use Rattle.head_call.specs.declared.Call.{Call}
use Rattle.head_call.specs.declared.InputRefusal.{InputRefusal}
use Rattle.head_life.specs.declared.ApplyPlan.{ApplyPlan}
use Rattle.head_life.specs.declared.HeadLifecycle.{HeadLifecycle}
use Rattle.head_driver.specs.Answers.{said}
use Rattle.head_driver.specs.declared.Answer.{Answer}
use Rattle.head_driver.specs.declared.Driver.{Driver}
use Rattle.head_driver.specs.declared.Reply.{Reply}
use Rattle.head_calls.specs.Apply.{apply, apply_planned, apply_settled}
use Rattle.head_calls.specs.Claim.{claim, claim_answer}
use Rattle.head_calls.specs.Deliver.{deliver}
use Rattle.head_calls.specs.Release.{release}
use Rattle.head_waits.specs.Snapshot.{snapshot, viewed}
use Rattle.head_waits.specs.Waits.{resume, resume_as, view_frees, wait, wait_as, waits_anew}
use Rattle.head_asks.specs.Asks.{completion, heads, link, last_report, stats}
use Rattle.head_step.specs.Statements.{AnswersInput, KeepsTurnedAway, SaysInput, input_said}
use Rattle.head_step.specs.Steps.{step}

claim_said : (r : Result Epoch HeadOutcome) → input_said (claim_answer r) ≡ None
unfolding input_said claim_answer
claim_said (Ok e) = refl
claim_said (Err o) = refl

apply_said : (d : Driver) (l : HeadLifecycle) (plan : ApplyPlan) (skip : BalSkip) (handle carried report : ℕ) → input_said (apply_planned d l plan skip handle carried report).answer ≡ None
unfolding input_said apply_planned apply_settled
apply_said d l (ApplyPlan.Refused o) skip handle carried report = refl
apply_said d l (ApplyPlan.Admitted held) skip handle carried report = refl

anew_said : (d : Driver) (n : ℕ) (a : ReadAnchor) (spare : ℕ) → input_said (waits_anew d n a spare).answer ≡ None
unfolding input_said waits_anew view_frees viewed
anew_said d n a spare = cond_both (preparing_at d.life.current a) _ _ (λ (r : Reply). input_said r.answer ≡ None) (λ e. refl) (λ e. refl)

wait_said : (d : Driver) (n : ℕ) (a : ReadAnchor) (spare : ℕ) (w : Waiter) → input_said (wait_as d n a spare w).answer ≡ None
unfolding input_said wait_as
wait_said d n a spare Waiter.Free = anew_said d n a spare
wait_said d n a spare Waiter.Parked = refl
wait_said d n a spare (Waiter.Abandoned b) = refl
wait_said d n a spare (Waiter.Ended b) = refl

resume_said : (d : Driver) (n spare : ℕ) (w : Waiter) → input_said (resume_as d n spare w).answer ≡ None
unfolding input_said resume_as view_frees viewed
resume_said d n spare Waiter.Free = refl
resume_said d n spare Waiter.Parked = refl
resume_said d n spare (Waiter.Abandoned b) = refl
resume_said d n spare (Waiter.Ended b) = anew_said d n b spare

-- a call that tests its input first
tested : (t : Bool) (d : Driver) (refused : Answer) (r : InputRefusal) (past : Reply) → input_said refused ≡ Some r → input_said past.answer ≡ None
    → input_said (cond t (record { driver = d; answer = refused }) past).answer ≡ cond t (Some r) None
tested true d refused r past p q = p
tested false d refused r past p q = q

pub says_input : SaysInput
unfolding input_said input_number refusal_said said
says_input (Answer.Ticket n) = inl refl
says_input (Answer.Claimed e) = inl refl
says_input Answer.Done = inl refl
says_input (Answer.Outcome o) = inl refl
says_input (Answer.View v) = inl refl
says_input Answer.Parked = inl refl
says_input (Answer.Completion end) = inl refl
says_input (Answer.Link l) = inl refl
says_input (Answer.Report r) = inl refl
says_input (Answer.Stats s) = inl refl
says_input (Answer.Heads current installed previous) = inl refl
says_input Answer.ListDisagrees = inr refl
says_input Answer.WaiterAbove15 = inr refl
says_input Answer.WaiterNotFree = inl refl
says_input Answer.WaiterFree = inl refl

pub answers_input : AnswersInput
unfolding step input_said input_refusal list_refusal waiter_refusal apply claim deliver release snapshot viewed wait resume completion link last_report stats heads
answers_input d (Call.Deliver a p cold) = refl
answers_input d (Call.Claim ticket) = claim_said _
answers_input d (Call.Release owner) = refl
answers_input d (Call.Apply ticket list handle carried report) = tested (not (as_prepared list)) d Answer.ListDisagrees InputRefusal.ListDisagrees _ refl (apply_said d _ _ list.skip handle carried report)
answers_input d (Call.Snapshot a spare) = refl
answers_input d (Call.Wait n a spare) = tested (ltb 15 n) d Answer.WaiterAbove15 InputRefusal.WaiterAbove15 _ refl (wait_said d n a spare _)
answers_input d (Call.Resume n spare) = tested (ltb 15 n) d Answer.WaiterAbove15 InputRefusal.WaiterAbove15 _ refl (resume_said d n spare _)
answers_input d (Call.Completion a) = refl
answers_input d (Call.Link parent child parent_hash) = refl
answers_input d Call.Report = refl
answers_input d Call.Stats = refl
answers_input d Call.Heads = refl

-- and leaves the driver where it is turned away
leaves : (t : Bool) (d : Driver) (refused : Answer) (r : InputRefusal) (past : Reply) → (cond t (Some r) None ≡ None) ⊎ ((cond t (record { driver = d; answer = refused }) past).driver ≡ d)
leaves true d refused r past = inr refl
leaves false d refused r past = inl refl

pub keeps_turned_away : KeepsTurnedAway
unfolding step input_refusal list_refusal waiter_refusal apply wait resume
keeps_turned_away d (Call.Deliver a p cold) = inl refl
keeps_turned_away d (Call.Claim ticket) = inl refl
keeps_turned_away d (Call.Release owner) = inl refl
keeps_turned_away d (Call.Apply ticket list handle carried report) = leaves (not (as_prepared list)) d Answer.ListDisagrees InputRefusal.ListDisagrees _
keeps_turned_away d (Call.Snapshot a spare) = inl refl
keeps_turned_away d (Call.Wait n a spare) = leaves (ltb 15 n) d Answer.WaiterAbove15 InputRefusal.WaiterAbove15 _
keeps_turned_away d (Call.Resume n spare) = leaves (ltb 15 n) d Answer.WaiterAbove15 InputRefusal.WaiterAbove15 _
keeps_turned_away d (Call.Completion a) = inl refl
keeps_turned_away d (Call.Link parent child parent_hash) = inl refl
keeps_turned_away d Call.Report = inl refl
keeps_turned_away d Call.Stats = inl refl
keeps_turned_away d Call.Heads = inl refl
