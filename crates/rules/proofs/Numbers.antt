-- The numbers under which generations settled, by the invariant's I11: of a driver, of its sheet, and of every view that a
-- line is answered with.
use Prim.Native.Nat.{ℕ, ◌≤◌}
use lib.Dec.{ltb}
use mathlib.Core.List.{List}
use mathlib.Core.Path.{ap, subst, ◌∙◌}
use Rattle.std.proofs.lemmas.Bool.{cond_both}
use Rattle.std.specs.Prelude.{Option, None, Some, Result, Ok, Err, not}
use Rattle.head_values.specs.Anchors.{same_anchor}
use Rattle.head_values.specs.Lists.{as_prepared}
use Rattle.head_values.specs.declared.BalSkip.{BalSkip}
use Rattle.head_values.specs.declared.ReadAnchor.{ReadAnchor}
use Rattle.head_count.specs.declared.Epoch.{Epoch}
use Rattle.head_count.specs.declared.Seq.{Seq}
use Rattle.head_attempt.specs.declared.Waiter.{Waiter}
use Rattle.head_ready.specs.Generations.{is_ready}
use Rattle.head_ready.specs.Ranges.{WhenNumbered}
use Rattle.head_ready.specs.declared.Generation.{Generation}
use Rattle.head_ready.specs.declared.HeadOutcome.{HeadOutcome}
use Rattle.head_ready.specs.declared.HeadView.{HeadView}
use Rattle.head_ready.specs.declared.Source.{Source}
use Rattle.head_current.specs.Heads.{preparing_at}
use Rattle.head_current.specs.declared.CurrentHead.{CurrentHead}
use Rattle.head_current.specs.declared.UnsettledHead.{UnsettledHead}
use Rattle.head_life.specs.Apply.{plan_apply}
use Rattle.head_life.specs.Claim.{claim_life}
use Rattle.head_life.specs.Views.{current_view, generation_view, provisional_view, spare_view, view}
use Rattle.head_life.specs.declared.ApplyPlan.{ApplyPlan}
use Rattle.head_life.specs.declared.HeadLifecycle.{HeadLifecycle}
use Rattle.head_driver.specs.declared.Answer.{Answer}
use Rattle.head_driver.specs.declared.Driver.{Driver}
use Rattle.head_driver.specs.declared.Reply.{Reply}
use Rattle.head_calls.specs.Apply.{apply, apply_planned, apply_settled}
use Rattle.head_calls.specs.Claim.{claim, claim_answer}
use Rattle.head_calls.specs.Deliver.{deliver}
use Rattle.head_calls.specs.Release.{release}
use Rattle.head_waits.specs.Parts.{waiter_at}
use Rattle.head_waits.specs.Snapshot.{snapshot, viewed}
use Rattle.head_waits.specs.Waits.{abandoned_view, resume, resume_as, shown_by_wait, view_frees, wait, wait_as, waits_anew}
use Rattle.head_asks.specs.Asks.{completion, heads, last_report, link, stats}
use Rattle.head_call.specs.declared.Call.{Call}
use Rattle.head_step.specs.Steps.{step}
use Rattle.alike.proofs.Kept.{seq_is_delivered}
use Rattle.alike.specs.Canon.{canon, shown_life}
use Rattle.alike.specs.Invariant.{Invariant, NumberAtMost, WhenGeneration}
use Rattle.script_answer.specs.declared.LineAnswer.{LineAnswer}
use Rattle.script_call.specs.Calls.{call}
use Rattle.script_call.specs.declared.LineCall.{LineCall}
use Rattle.driver.specs.Turns.{made, sheet_answer, turn_of}
use Rattle.sheet_back.proofs.Sheets.{sheet_back}
use Rattle.sheet_read.specs.Reads.{read_sheet}
use Rattle.rules.proofs.LineFeeds.{sheet_is_text}
use Rattle.rules.proofs.Brought.{brought_keep}
use Rattle.rules.specs.Numbers.{NumbersAtMost, NumbersNeverExceed, SheetNeverExceeds, ViewsNeverExceed}

-- ---- a driver and its sheet

at_most : (d : Driver) → Invariant d → NumbersAtMost d
at_most d v = record {
  installed = rw (seq_is_delivered d v) at v.ordered.installed_number;
  previous = rw (seq_is_delivered d v) at v.ordered.previous_number;
}

pub numbers_never_exceed : NumbersNeverExceed
numbers_never_exceed d b = at_most d (brought_keep d b)

shown_at_most : (d : Driver) → NumbersAtMost d → NumbersAtMost (canon d)
unfolding canon shown_life
shown_at_most d n = record { installed = n.installed; previous = n.previous }

pub sheet_never_exceeds : SheetNeverExceeds
sheet_never_exceeds d b buffer h = (
  canon d,
  ap read_sheet (sheet_is_text d buffer h) ∙ sheet_back d (brought_keep d b),
  shown_at_most d (numbers_never_exceed d b),
)

-- ---- views

module _ (n : ℕ) where
  abbrev Numbered : Source → Type 0
  Numbered source = WhenNumbered source (λ seq. seq.0 ≤ n)

  abbrev Shows : HeadView → Type 0
  Shows v = Numbered v.source

  -- where an answer is a view, its source's number is at most n
  abbrev Answers : Answer → Type 0
  Answers (Answer.Ticket seq) = Unit {0}
  Answers (Answer.Claimed e) = Unit {0}
  Answers Answer.Done = Unit {0}
  Answers (Answer.Outcome o) = Unit {0}
  Answers (Answer.View v) = Shows v
  Answers Answer.Parked = Unit {0}
  Answers (Answer.Completion end) = Unit {0}
  Answers (Answer.Link l) = Unit {0}
  Answers (Answer.Report r) = Unit {0}
  Answers (Answer.Stats s) = Unit {0}
  Answers (Answer.Heads c i p) = Unit {0}
  Answers Answer.ListDisagrees = Unit {0}
  Answers Answer.WaiterAbove15 = Unit {0}
  Answers Answer.WaiterNotFree = Unit {0}
  Answers Answer.WaiterFree = Unit {0}

  abbrev LineAnswers : LineAnswer → Type 0
  LineAnswers (LineAnswer.Said a) = Answers a
  LineAnswers LineAnswer.NoCall = Unit {0}
  LineAnswers LineAnswer.SheetTooShort = Unit {0}
  LineAnswers LineAnswer.SheetNotTaken = Unit {0}
  LineAnswers (LineAnswer.Sheet k) = Unit {0}

  abbrev Replied : Reply → Type 0
  Replied r = Answers r.answer

  generation_shows : (source : Seq → Source) → ((s : Seq) → s.0 ≤ n → Numbered (source s))
      → (g : Option Generation) (a : ReadAnchor) (next : HeadView)
      → WhenGeneration g (NumberAtMost n) → Shows next → Shows (generation_view source g a next)
  unfolding generation_view
  generation_shows source k None a next f h = h
  generation_shows source k (Some g) a next f h = cond_both (same_anchor g.anchor a) _ _ Shows (λ e. k g.seq f) (λ e. h)

  provisional_shows : (u : UnsettledHead) (a : ReadAnchor) (next : HeadView) → Shows next → Shows (provisional_view u a next)
  unfolding provisional_view
  provisional_shows u a next h = cond_both (same_anchor u.delivery.anchor a) _ _ Shows (λ e. tt) (λ e. h)

  current_shows : (c : CurrentHead) (a : ReadAnchor) (next : HeadView) → Shows next → Shows (current_view c a next)
  unfolding current_view
  current_shows CurrentHead.Absent a next h = h
  current_shows (CurrentHead.Unclaimed u) a next h = provisional_shows u a next h
  current_shows (CurrentHead.Preparing u) a next h = provisional_shows u a next h
  current_shows (CurrentHead.Settled s) a next h = h

  abandoned_shows : (v : HeadView) (spare : ℕ) → Shows v → Shows (abandoned_view v spare)
  unfolding abandoned_view
  abandoned_shows v spare h = cond_both (is_ready v.readiness) _ _ Shows (λ e. tt) (λ e. h)

  module _ (d : Driver) (i : WhenGeneration d.life.installed (NumberAtMost n))
      (p : WhenGeneration d.life.previous (NumberAtMost n)) where
    view_shows : (a : ReadAnchor) (spare : ℕ) → Shows (view d.life a spare)
    unfolding view spare_view
    view_shows a spare =
        generation_shows Source.Installed (λ s k. k) d.life.installed a _ i
        (current_shows d.life.current a _
        (generation_shows Source.Previous (λ s k. k) d.life.previous a _ p tt))

    anew_shows : (k : ℕ) (a : ReadAnchor) (spare : ℕ) → Replied (waits_anew d k a spare)
    unfolding waits_anew view_frees viewed shown_by_wait
    anew_shows k a spare = cond_both (preparing_at d.life.current a) _ _ Replied (λ e. tt) (λ e. view_shows a spare)

    wait_shows : (w : Waiter) (k : ℕ) (a : ReadAnchor) (spare : ℕ) → Replied (wait_as d k a spare w)
    unfolding wait_as
    wait_shows Waiter.Free k a spare = anew_shows k a spare
    wait_shows Waiter.Parked k a spare = tt
    wait_shows (Waiter.Abandoned b) k a spare = tt
    wait_shows (Waiter.Ended b) k a spare = tt

    resume_shows : (w : Waiter) (k spare : ℕ) → Replied (resume_as d k spare w)
    unfolding resume_as view_frees viewed
    resume_shows Waiter.Free k spare = tt
    resume_shows Waiter.Parked k spare = tt
    resume_shows (Waiter.Abandoned a) k spare = abandoned_shows (view d.life a spare) spare (view_shows a spare)
    resume_shows (Waiter.Ended a) k spare = anew_shows k a spare

    -- claims and applies answer no view

    claim_shows : (r : Result Epoch HeadOutcome) → Answers (claim_answer r)
    unfolding claim_answer
    claim_shows (Ok e) = tt
    claim_shows (Err o) = tt

    plan_shows : (l : HeadLifecycle) (plan : ApplyPlan) (skip : BalSkip) (handle carried report : ℕ)
        → Replied (apply_planned d l plan skip handle carried report)
    unfolding apply_planned apply_settled
    plan_shows l (ApplyPlan.Refused o) skip handle carried report = tt
    plan_shows l (ApplyPlan.Admitted held) skip handle carried report = tt

    call_shows : (c : Call) → Replied (step d c)
    unfolding step deliver claim release apply snapshot viewed wait resume completion link last_report stats heads
    call_shows (Call.Deliver a q cold) = tt
    call_shows (Call.Claim ticket) = claim_shows (claim_life d.life ticket).1
    call_shows (Call.Release owner) = tt
    call_shows (Call.Apply ticket list handle carried report) =
        cond_both (not (as_prepared list)) _ _ Replied (λ e. tt)
        (λ e. plan_shows (plan_apply d.life ticket list.anchor).0 (plan_apply d.life ticket list.anchor).1 list.skip handle carried report)
    call_shows (Call.Snapshot a spare) = view_shows a spare
    call_shows (Call.Wait k a spare) = cond_both (ltb 15 k) _ _ Replied (λ e. tt) (λ e. wait_shows (waiter_at d.waiters k) k a spare)
    call_shows (Call.Resume k spare) = cond_both (ltb 15 k) _ _ Replied (λ e. tt) (λ e. resume_shows (waiter_at d.waiters k) k spare)
    call_shows (Call.Completion a) = tt
    call_shows (Call.Link parent child q) = tt
    call_shows Call.Report = tt
    call_shows Call.Stats = tt
    call_shows Call.Heads = tt

    sheet_shows : (written : Option ℕ) → LineAnswers (sheet_answer written)
    unfolding sheet_answer
    sheet_shows None = tt
    sheet_shows (Some k) = tt

    turn_shows : (q : Option LineCall) (buffer : List ℕ) → LineAnswers (turn_of d q buffer).answer
    unfolding turn_of made
    turn_shows None buffer = tt
    turn_shows (Some LineCall.Sheet) buffer = sheet_shows _
    turn_shows (Some (LineCall.Make c)) buffer = call_shows c

pub views_never_exceed : ViewsNeverExceed
views_never_exceed d b asked v e =
    let n = numbers_never_exceed d b in
    subst (LineAnswers d.life.stats.delivered) e (turn_shows d.life.stats.delivered d n.installed n.previous (call asked.line) asked.buffer)
