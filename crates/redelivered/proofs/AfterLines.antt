-- What stays installed or previous is shown, whatever line asks: by the invariant no unsettled head stands at an anchor that is
-- installed.
use Prim.Native.Nat.{ℕ, ◌≤◌}
use native.Mathlib.Omega.{arith}
use mathlib.Core.Bool.{false}
use mathlib.Core.List.{List, ◌∷◌}
use mathlib.Core.Path.{◌≡◌, refl, ap, sym, ◌∙◌}
use Rattle.std.proofs.lemmas.Bool.{false_from_ne_true}
use Rattle.std.specs.Prelude.{Option, Some}
use Rattle.head_values.specs.Anchors.{holds, same_anchor}
use Rattle.head_values.specs.declared.CarryOutcome.{CarryOutcome}
use Rattle.head_values.specs.declared.PreparedBal.{PreparedBal}
use Rattle.head_values.specs.declared.ReadAnchor.{ReadAnchor}
use Rattle.head_attempt.specs.declared.Waiter.{Waiter}
use Rattle.head_ready.specs.Generations.{is_ready, slot_anchor, view_of}
use Rattle.head_ready.specs.declared.Generation.{Generation}
use Rattle.head_ready.specs.declared.HeadCold.{HeadCold}
use Rattle.head_ready.specs.declared.HeadOutcome.{HeadOutcome}
use Rattle.head_current.specs.declared.HeadTicket.{HeadTicket}
use Rattle.head_life.specs.Apply.{previous_after, settled_readiness}
use Rattle.head_life.specs.Views.{view}
use Rattle.head_ready.specs.declared.HeadReadiness.{HeadReadiness}
use Rattle.head_ready.specs.declared.HeadView.{HeadView}
use Rattle.head_ready.specs.declared.Source.{Source}
use Rattle.head_current.specs.Heads.{preparing_at}
use Rattle.head_current.specs.declared.CurrentHead.{CurrentHead}
use Rattle.head_driver.specs.declared.Answer.{Answer}
use Rattle.head_driver.specs.declared.Driver.{Driver}
use Rattle.head_waits.specs.Parts.{waiter_at}
use Rattle.head_waits.specs.Snapshot.{snapshot, viewed}
use Rattle.head_waits.specs.Waits.{abandoned_view, readiness_by_wait, resume, resume_as, shown_by_wait, view_frees, wait, wait_as, waits_anew}
use Rattle.head_call.specs.declared.Call.{Call}
use Rattle.head_step.specs.Steps.{step}
use Rattle.alike.proofs.Alike.{unsettled_at}
use Rattle.alike.proofs.Poses.{previous_elsewhere}
use Rattle.alike.proofs.Replies.{view_previous}
use Rattle.alike.proofs.Tests.{at_most_15, same_anchor_lem, same_holds, true_false}
use Rattle.alike.specs.Invariant.{FromApply, Invariant, WhenUnsettled}
use Rattle.script_call.specs.Calls.{call}
use Rattle.script_call.specs.declared.LineCall.{LineCall}
use Rattle.script_answer.specs.declared.LineAnswer.{LineAnswer}
use Rattle.driver.specs.Turns.{made, turn_of}
use Rattle.rules.proofs.Brought.{brought_keep}
use Rattle.rules.proofs.Lines.{lines_keep}
use Rattle.rules.specs.Brought.{Brought}
use Rattle.rules.specs.Runs.{Entry, after, turn_at}
use Rattle.redelivered.proofs.Redelivered.{installed_read}
use Rattle.redelivered.proofs.Applied.{apply_installs, settled_as}
use Rattle.redelivered.proofs.Settles.{delivery_keeps, generations, lines_keep_both}
use Rattle.redelivered.specs.Statements.{AbandonedAsSettled, AsksFor, NoneSettles, PreviousAsSettled, ShownAfterLines, ShownUntilNextSettle, as_settled, by_resume, by_snapshot, by_wait, driver_after}

-- an installed readiness is never `unprepared`
settled_shown : (r : HeadReadiness) → FromApply r → readiness_by_wait r ≡ r
unfolding readiness_by_wait
settled_shown HeadReadiness.Ready f = refl
settled_shown (HeadReadiness.Cold HeadCold.Unprepared) f = absurd f
settled_shown (HeadReadiness.Cold HeadCold.Superseded) f = absurd f
settled_shown (HeadReadiness.Cold HeadCold.Undelivered) f = absurd f
settled_shown (HeadReadiness.Cold HeadCold.Abandoned) f = absurd f
settled_shown (HeadReadiness.Cold (HeadCold.Settled link skip)) f = refl

-- no unsettled head stands at an installed anchor
apart : (c : CurrentHead) (i : Option ReadAnchor) (a : ReadAnchor) → i ≡ Some a
    → WhenUnsettled c (λ u. holds i u.delivery.anchor ≡ false) → WhenUnsettled c (λ u. ¬ (u.delivery.anchor ≡ a))
apart CurrentHead.Absent i a e f = tt
apart (CurrentHead.Unclaimed u) i a e f = λ p. true_false (same_holds i u.delivery.anchor (e ∙ ap Some (sym p))) f
apart (CurrentHead.Preparing u) i a e f = λ p. true_false (same_holds i u.delivery.anchor (e ∙ ap Some (sym p))) f
apart (CurrentHead.Settled s) i a e f = tt

-- and where none stands at an anchor, none does by the tests
module _ (a : ReadAnchor) where
  not_same : (b : ReadAnchor) → ¬ (b ≡ a) → same_anchor b a ≡ false
  not_same b f = false_from_ne_true (same_anchor b a) (λ t. f (same_anchor_lem b a t))

  not_unsettled : (c : CurrentHead) → WhenUnsettled c (λ u. ¬ (u.delivery.anchor ≡ a)) → unsettled_at c a ≡ false
  not_unsettled CurrentHead.Absent f = refl
  not_unsettled (CurrentHead.Unclaimed u) f = not_same u.delivery.anchor f
  not_unsettled (CurrentHead.Preparing u) f = not_same u.delivery.anchor f
  not_unsettled (CurrentHead.Settled s) f = refl

  not_preparing : (c : CurrentHead) → WhenUnsettled c (λ u. ¬ (u.delivery.anchor ≡ a)) → preparing_at c a ≡ false
  unfolding preparing_at
  not_preparing CurrentHead.Absent f = refl
  not_preparing (CurrentHead.Unclaimed u) f = refl
  not_preparing (CurrentHead.Preparing u) f = not_same u.delivery.anchor f
  not_preparing (CurrentHead.Settled s) f = refl

-- an anchor that has one view, whatever the spare handle, is shown so
module _ (d : Driver) (a : ReadAnchor) (shown : HeadView) (views : (spare : ℕ) → view d.life a spare ≡ shown)
    (free : preparing_at d.life.current a ≡ false) (stays : readiness_by_wait shown.readiness ≡ shown.readiness) where
  anew_shows : (n spare : ℕ) → (waits_anew d n a spare).answer ≡ Answer.View shown
  unfolding waits_anew view_frees viewed shown_by_wait
  anew_shows n spare = rw (free, views spare, stays) refl

  wait_shows : (n spare : ℕ) → n ≤ 15 → waiter_at d.waiters n ≡ Waiter.Free → (wait d n a spare).answer ≡ Answer.View shown
  unfolding wait wait_as
  wait_shows n spare h w = rw (at_most_15 n (omega (arith, h)), w) (anew_shows n spare)

  resume_shows : (n spare : ℕ) → n ≤ 15 → waiter_at d.waiters n ≡ Waiter.Ended a → (resume d n spare).answer ≡ Answer.View shown
  unfolding resume resume_as
  resume_shows n spare h w = rw (at_most_15 n (omega (arith, h)), w) (anew_shows n spare)

  snapshot_shows : (spare : ℕ) → (snapshot d a spare).answer ≡ Answer.View shown
  unfolding snapshot viewed
  snapshot_shows spare = ap (λ (x : HeadView). Answer.View x) (views spare)

  asked_shows : (asked : Entry) → AsksFor d a asked.line → (turn_at d asked).answer ≡ LineAnswer.Said (Answer.View shown)
  unfolding turn_of made step
  asked_shows asked (by_snapshot spare q) = rw q (ap (λ (x : Answer). LineAnswer.Said x) (snapshot_shows spare))
  asked_shows asked (by_wait n spare h w q) = rw q (ap (λ (x : Answer). LineAnswer.Said x) (wait_shows n spare h w))
  asked_shows asked (by_resume n spare h w q) = rw q (ap (λ (x : Answer). LineAnswer.Said x) (resume_shows n spare h w))

module _ (d : Driver) (v : Invariant d) (g : Generation) (asked : Entry) (asks : AsksFor d g.anchor asked.line) where
  installed_shown : d.life.installed ≡ Some g → (turn_at d asked).answer ≡ LineAnswer.Said (Answer.View (as_settled g))
  installed_shown e =
      let w = apart d.life.current (slot_anchor d.life.installed) g.anchor (unfold slot_anchor in rw e refl) v.ordered.unsettled_elsewhere in
      asked_shows d g.anchor (as_settled g) (λ spare. installed_read d.life g spare e) (not_preparing g.anchor d.life.current w)
      (settled_shown g.readiness (rw e at v.ordered.installed_readiness)) asked asks

  previous_shown : d.life.previous ≡ Some g → WhenUnsettled d.life.current (λ u. ¬ (u.delivery.anchor ≡ g.anchor))
      → (turn_at d asked).answer ≡ LineAnswer.Said (Answer.View (view_of (Source.Previous g.seq) g.handle g.readiness))
  previous_shown e w =
      let i = previous_elsewhere _ _ v.ordered.previous_below g g.anchor e refl in
      asked_shows d g.anchor (view_of (Source.Previous g.seq) g.handle g.readiness)
      (λ spare. view_previous d.life g.anchor spare g i (not_unsettled g.anchor d.life.current w) e refl)
      (not_preparing g.anchor d.life.current w)
      (settled_shown g.readiness (rw e at v.ordered.previous_readiness)) asked asks

-- the same abandoned
module _ (d : Driver) (a : ReadAnchor) (shown : HeadView) (views : (spare : ℕ) → view d.life a spare ≡ shown)
    (cold : is_ready shown.readiness ≡ false) where
  resume_abandoned : (n spare : ℕ) → n ≤ 15 → waiter_at d.waiters n ≡ Waiter.Abandoned a
      → (resume d n spare).answer ≡ Answer.View (view_of shown.source shown.handle (HeadReadiness.Cold HeadCold.Abandoned))
  unfolding resume resume_as view_frees viewed abandoned_view
  resume_abandoned n spare h w = rw (at_most_15 n (omega (arith, h)), w, views spare, cold) refl

  abandoned_shown : (asked : Entry) (n spare : ℕ) → n ≤ 15 → waiter_at d.waiters n ≡ Waiter.Abandoned a
      → call asked.line ≡ Some (LineCall.Make (Call.Resume n spare))
      → (turn_at d asked).answer
      ≡ LineAnswer.Said (Answer.View (view_of shown.source shown.handle (HeadReadiness.Cold HeadCold.Abandoned)))
  unfolding turn_of made step
  abandoned_shown asked n spare h w q = rw q (ap (λ (x : Answer). LineAnswer.Said x) (resume_abandoned n spare h w))

-- what a call answers as a line's answer
said_of : {a b : Answer} → LineAnswer.Said a ≡ LineAnswer.Said b → a ≡ b
said_of p = cc

-- the line that delivers again
again_keeps : (d : Driver) (again : Entry) (c : Call) → call again.line ≡ Some (LineCall.Make c)
    → generations (step d c).driver.life ≡ generations d.life → generations (turn_at d again).driver.life ≡ generations d.life
unfolding turn_of made
again_keeps d again c q k = rw q k

-- the line that settles
settling_installs : (d : Driver) (settling : Entry) (ticket : HeadTicket) (list : PreparedBal) (handle carried report : ℕ) (o : CarryOutcome)
    → call settling.line ≡ Some (LineCall.Make (Call.Apply ticket list handle carried report))
    → (turn_at d settling).answer ≡ LineAnswer.Said (Answer.Outcome (HeadOutcome.Settled o))
    → generations (turn_at d settling).driver.life ≡ settled_as d ticket handle o ticket.anchor ticket.seq o
unfolding turn_of made
settling_installs d settling ticket list handle carried report o q told =
    rw q (apply_installs d ticket handle o list carried report (said_of (rw q at told)))

module _ (d : Driver) (b : Brought d) (more : List Entry) (next asked : Entry) where
  -- of the driver after the line and those after it
  brought : Invariant (driver_after d next more)
  unfolding after
  brought = lines_keep d (next ∷ more) (brought_keep d b)

  keeps_both : NoneSettles (turn_at d next).driver more
      → generations (driver_after d next more).life ≡ generations (turn_at d next).driver.life
  keeps_both n = lines_keep_both (turn_at d next).driver more n

pub shown_until_next_settle : ShownUntilNextSettle
shown_until_next_settle d b more settling asked ticket list handle carried report o q told n asks =
    let both = keeps_both d b more settling asked n
    ∙ settling_installs d settling ticket list handle carried report o q told in
    installed_shown (driver_after d settling more) (brought d b more settling asked)
    (record { anchor = ticket.anchor; handle = handle; seq = ticket.seq; readiness = settled_readiness o }) asked asks
    (ap (λ (x : Option Generation × Option Generation). x.0) both)

pub shown_after_lines : ShownAfterLines
unfolding step
shown_after_lines d b more again asked g p cold e q n asks =
    let both = keeps_both d b more again asked n
    ∙ again_keeps d again (Call.Deliver g.anchor p cold) q (delivery_keeps d g.anchor p cold) in
    installed_shown (driver_after d again more) (brought d b more again asked) g asked asks
    (ap (λ (x : Option Generation × Option Generation). x.0) both ∙ e)

pub previous_as_settled : PreviousAsSettled
unfolding previous_after
previous_as_settled d b more carrying asked g ticket list handle carried report count i q told n away asks =
    let both = keeps_both d b more carrying asked n
    ∙ settling_installs d carrying ticket list handle carried report (CarryOutcome.Carried count) q told in
    previous_shown (driver_after d carrying more) (brought d b more carrying asked) g asked asks
    (ap (λ (x : Option Generation × Option Generation). x.1) both ∙ i) away

pub abandoned_as_settled : AbandonedAsSettled
abandoned_as_settled d b asked g n spare cold h w q =
    let v = brought_keep d b in (
      (λ e. abandoned_shown d g.anchor (as_settled g) (λ s. installed_read d.life g s e) cold asked n spare h w q),
      (λ e away.
          abandoned_shown d g.anchor (view_of (Source.Previous g.seq) g.handle g.readiness)
          (λ s.
          view_previous d.life g.anchor s g (previous_elsewhere _ _ v.ordered.previous_below g g.anchor e refl)
          (not_unsettled g.anchor d.life.current away) e refl)
          cold asked n spare h w q),
    )
