-- Every call against the conditions that it tests, in their order, and what it leaves where one of them applies.
use Rattle.std.proofs.lemmas.Bool.{cond_both, or_parts}
use mathlib.Core.Bool.{Bool, true, false}
use Rattle.head_ready.specs.declared.Generation.{Generation}
use Rattle.head_ready.specs.declared.HeadOutcome.{HeadOutcome}
use Prim.Native.Nat.{ℕ}
use mathlib.Core.List.{List, [], ◌∷◌}
use mathlib.Core.Logic.{◌⊎◌, inl, inr}
use mathlib.Core.Path.{◌≡◌, refl}
use lib.Dec.{ltb}
use Rattle.std.specs.Prelude.{Some, Option, None, Result, Ok, Err, cond, not, ◌||◌}
use Rattle.alike.proofs.KeptOrder.{nothing_held}
use Rattle.alike.proofs.Nexts.{claim_reply}
use Rattle.alike.proofs.Tests.{false_from_not_true, same_anchor_lem, true_false, true_from_not_false}
use Rattle.head_values.specs.Anchors.{holds, same_anchor}
use Rattle.head_values.specs.Lists.{as_prepared}
use Rattle.head_calls.specs.Apply.{apply, apply_planned, apply_settled}
use Rattle.head_count.specs.Counters.{raise}
use Rattle.head_current.specs.Heads.{delivery, has_ticket, preparing_at, is_settled, is_preparing}
use Rattle.head_calls.specs.Claim.{claim, claim_answer}
use Rattle.head_calls.specs.Deliver.{deliver}
use Rattle.head_calls.specs.Release.{release}
use Rattle.head_waits.specs.Snapshot.{snapshot, viewed}
use Rattle.head_driver.specs.Parts.{with_life}
use Rattle.head_life.specs.Apply.{plan_apply, plan_held}
use Rattle.head_ready.specs.Generations.{slot_anchor}
use Rattle.head_life.specs.State.{counted}
use Rattle.head_asks.specs.Asks.{completion, last_report, stats, heads, link}
use Rattle.head_step.specs.Steps.{step}
use Rattle.head_waits.specs.Waits.{resume, resume_as, view_frees, wait, wait_as, waits_anew}
use Rattle.head_waits.specs.Parts.{waiter_at}
use Rattle.head_values.specs.declared.PreparedBal.{PreparedBal}
use Rattle.head_values.specs.declared.ReadAnchor.{ReadAnchor}
use Rattle.head_count.specs.declared.Epoch.{Epoch}
use Rattle.head_attempt.specs.declared.Waiter.{Waiter}
use Rattle.head_current.specs.declared.CurrentHead.{CurrentHead}
use Rattle.head_current.specs.declared.HeadDelivery.{HeadDelivery}
use Rattle.head_current.specs.declared.HeadTicket.{HeadTicket}
use Rattle.head_driver.specs.declared.Driver.{Driver}
use Rattle.head_driver.specs.declared.Reply.{Reply}
use Rattle.head_life.specs.declared.ApplyPlan.{ApplyPlan}
use Rattle.head_call.specs.declared.Call.{Call}
use Rattle.script_call.specs.declared.LineCall.{LineCall}
use Rattle.rules.specs.Refusals.{FirstThatApplies, HeadInstalled, IsSettled, Refusal, Test, already_installed, call_tests, foreign, free, in_flight, after_refusal, not_free, superseded, test}
use Rattle.rules.specs.Said.{answer_refusal}
use Rattle.rules.proofs.Conditions.{anchor_is_not, installed_is, installed_is_not, list_agrees, list_at_odds, number_high, number_low, ticket_is, ticket_is_not}
use Rattle.head_life.specs.declared.HeadLifecycle.{HeadLifecycle}
use Rattle.head_life.specs.Claim.{claim_held, claim_life}
use Rattle.head_ready.specs.Refusals.{refused_14}

-- the driver that a refusal leaves
abbrev pub Leaves : Driver → Call → Refusal → Driver → Type 0
Leaves d c Refusal.accepted e = Unit {0}
Leaves d c (Refusal.refused n names) e = e ≡ after_refusal d (Some (LineCall.Make c)) n

-- a reply is what the first condition that applies says, and leaves the driver so
pub record Met (d : Driver) (c : Call) (ts : List Test) (r : Reply) : Type 0 where
  pub first : FirstThatApplies ts (answer_refusal r.answer)
  pub leaves : Leaves d c (answer_refusal r.answer) r.driver

-- past a condition that does not apply
past : {d : Driver} {c : Call} {t : Test} {ts : List Test} {r : Reply} → (¬ t.applies) → Met d c ts r → Met d c (t ∷ ts) r
past n m = record { first = inr (n, m.first); leaves = m.leaves }

neither : {A B : Type 0} → ¬ A → ¬ B → ¬ (A ⊎ B)
neither n m (inl a) = n a
neither n m (inr b) = m b

-- ---- claim

module _ (d : Driver) (ticket : HeadTicket) where
  abbrev Claims : List Test → HeadLifecycle × Result Epoch HeadOutcome → Type 0
  Claims ts r = Met d (Call.Claim ticket) ts (claim_reply d r)

  -- 14, or the claim is taken
  flight_met : (c : CurrentHead) {held : HeadDelivery} → delivery c ≡ Some held → is_settled c ≡ false → (taken : HeadLifecycle) (e : Epoch)
      → Claims (in_flight c ∷ []) (cond (is_preparing c) (d.life, Err refused_14) (taken, Ok e))
  unfolding delivery is_settled is_preparing claim_answer with_life
  flight_met CurrentHead.Absent h s taken e = nothing_held h
  flight_met (CurrentHead.Unclaimed u) h s taken e = past (λ x. x) (record { first = refl; leaves = tt })
  flight_met (CurrentHead.Preparing u) h s taken e = record { first = inl (tt, refl); leaves = refl }
  flight_met (CurrentHead.Settled x) h s taken e = true_false refl s

  settled_is : (c : CurrentHead) → is_settled c ≡ true → IsSettled c
  unfolding is_settled
  settled_is CurrentHead.Absent e = true_false e refl
  settled_is (CurrentHead.Unclaimed u) e = true_false e refl
  settled_is (CurrentHead.Preparing u) e = true_false e refl
  settled_is (CurrentHead.Settled s) e = tt

  settled_is_not : (c : CurrentHead) → is_settled c ≡ false → ¬ IsSettled c
  unfolding is_settled
  settled_is_not CurrentHead.Absent e = λ x. x
  settled_is_not (CurrentHead.Unclaimed u) e = λ x. x
  settled_is_not (CurrentHead.Preparing u) e = λ x. x
  settled_is_not (CurrentHead.Settled s) e = true_false refl e

  either_is : (b c : Bool) → (b || c) ≡ true → (b ≡ true) ⊎ (c ≡ true)
  either_is true c e = inl refl
  either_is false c e = inr e

  installed_met : {A B : Type 0} {x y : Bool} → (x ≡ true → A) → (y ≡ true → B) → (x ≡ true) ⊎ (y ≡ true) → A ⊎ B
  installed_met f g (inl e) = inl (f e)
  installed_met f g (inr e) = inr (g e)

  claim_met : (i : Option Generation) (s : Option HeadDelivery) → d.life.installed ≡ i → delivery d.life.current ≡ s
      → Claims (superseded s ticket ∷ (test (HeadInstalled i s ⊎ IsSettled d.life.current) 13 [] ∷ (in_flight d.life.current ∷ []))) (claim_held s d.life ticket)
  unfolding claim_held claim_answer with_life
  claim_met i None p h = record { first = inl (tt, refl); leaves = refl }
  claim_met i (Some held) p h =
      let late = in_flight d.life.current ∷ [] in
      let late_13 = test (HeadInstalled i (Some held) ⊎ IsSettled d.life.current) 13 [] ∷ late in
      let x = holds (slot_anchor d.life.installed) held.anchor in
      let y = is_settled d.life.current in
      cond_both (not (has_ticket held ticket)) _ _ (Claims (superseded (Some held) ticket ∷ late_13))
      (λ e. record { first = inl (ticket_is_not held ticket (false_from_not_true _ e), refl); leaves = refl })
      (λ e. past (λ n. n (ticket_is held ticket (true_from_not_false _ e)))
      (cond_both (x || y) _ _ (Claims late_13)
      (λ f. record { first = inl (installed_met (λ z. installed_is i held (rw p at z)) (λ z. settled_is d.life.current z) (either_is x y f), refl); leaves = refl })
      (λ f.
      let o = or_parts x y f in
      past (neither (installed_is_not i held (rw p at o.0)) (settled_is_not d.life.current o.1)) (flight_met d.life.current h o.1 _ _))))

-- ---- apply

module _ (d : Driver) (ticket : HeadTicket) (list : PreparedBal) (handle carried report : ℕ) where
  abbrev Applies : List Test → HeadLifecycle × ApplyPlan → Type 0
  Applies ts r = Met d (Call.Apply ticket list handle carried report) ts (apply_planned d r.0 r.1 list.skip handle carried report)

  -- 11, 12, 13
  plan_met : (i : Option Generation) (s : Option HeadDelivery) → d.life.installed ≡ i
      → Applies (superseded s ticket ∷ (foreign s list ∷ (already_installed i s ∷ []))) (plan_held s d.life ticket list.anchor)
  unfolding plan_held apply_planned apply_settled with_life counted raise
  plan_met i None p = record { first = inl (tt, refl); leaves = refl }
  plan_met i (Some held) p =
      let s = Some held in
      cond_both (not (has_ticket held ticket)) _ _ (Applies (superseded s ticket ∷ (foreign s list ∷ (already_installed i s ∷ []))))
      (λ e. record { first = inl (ticket_is_not held ticket (false_from_not_true _ e), refl); leaves = refl })
      (λ e. past (λ n. n (ticket_is held ticket (true_from_not_false _ e)))
      (cond_both (not (same_anchor list.anchor held.anchor)) _ _ (Applies (foreign s list ∷ (already_installed i s ∷ [])))
      (λ f. record { first = inl (anchor_is_not list.anchor held.anchor (false_from_not_true _ f), refl); leaves = refl })
      (λ f. past (λ n. n (same_anchor_lem list.anchor held.anchor (true_from_not_false _ f)))
      (cond_both (holds (slot_anchor d.life.installed) held.anchor) _ _ (Applies (already_installed i s ∷ []))
      (λ h. record { first = inl (installed_is i held (rw p at h), refl); leaves = refl })
      (λ h. past (installed_is_not i held (rw p at h)) (record { first = refl; leaves = tt }))))))

-- ---- wait and resume

parked_taken : {X : Type 0} → Waiter.Parked ≡ Waiter.Free → X
parked_taken p = cc

abandoned_taken : {a : ReadAnchor} {X : Type 0} → Waiter.Abandoned a ≡ Waiter.Free → X
abandoned_taken p = cc

ended_taken : {a : ReadAnchor} {X : Type 0} → Waiter.Ended a ≡ Waiter.Free → X
ended_taken p = cc

anew_met : (d : Driver) (c : Call) (n : ℕ) (a : ReadAnchor) (spare : ℕ) → Met d c [] (waits_anew d n a spare)
unfolding waits_anew view_frees viewed
anew_met d c n a spare = cond_both (preparing_at d.life.current a) _ _ (Met d c []) (λ e. record { first = refl; leaves = tt }) (λ e. record { first = refl; leaves = tt })

wait_met : (d : Driver) (w : Waiter) (n : ℕ) (a : ReadAnchor) (spare : ℕ) → Met d (Call.Wait n a spare) (not_free w ∷ []) (wait_as d n a spare w)
unfolding wait_as
wait_met d Waiter.Free n a spare = past (λ k. k refl) (anew_met d (Call.Wait n a spare) n a spare)
wait_met d Waiter.Parked n a spare = record { first = inl (parked_taken, refl); leaves = refl }
wait_met d (Waiter.Abandoned b) n a spare = record { first = inl (abandoned_taken, refl); leaves = refl }
wait_met d (Waiter.Ended b) n a spare = record { first = inl (ended_taken, refl); leaves = refl }

resume_met : (d : Driver) (w : Waiter) (n spare : ℕ) → Met d (Call.Resume n spare) (free w ∷ []) (resume_as d n spare w)
unfolding resume_as view_frees viewed
resume_met d Waiter.Free n spare = record { first = inl (refl, refl); leaves = refl }
resume_met d Waiter.Parked n spare = past parked_taken (record { first = refl; leaves = tt })
resume_met d (Waiter.Abandoned a) n spare = past abandoned_taken (record { first = refl; leaves = tt })
resume_met d (Waiter.Ended a) n spare = past ended_taken (anew_met d (Call.Resume n spare) n a spare)

-- ---- every call

pub step_met : (d : Driver) (c : Call) → Met d c (call_tests d c) (step d c)
unfolding step deliver claim claim_life with_life release apply plan_apply snapshot viewed wait resume completion link last_report stats heads
step_met d (Call.Deliver a p cold) = record { first = refl; leaves = tt }
step_met d (Call.Claim ticket) = claim_met d ticket d.life.installed (delivery d.life.current) refl refl
step_met d (Call.Release owner) = record { first = refl; leaves = tt }
step_met d (Call.Apply ticket list handle carried report) =
    let c = Call.Apply ticket list handle carried report in
    cond_both (not (as_prepared list)) _ _ (Met d c (call_tests d c))
    (λ e. record { first = inl (list_at_odds list (false_from_not_true _ e), refl); leaves = refl })
    (λ e. past (list_agrees list (true_from_not_false _ e)) (plan_met d ticket list handle carried report d.life.installed (delivery d.life.current) refl))
step_met d (Call.Snapshot a spare) = record { first = refl; leaves = tt }
step_met d (Call.Wait n a spare) =
    let c = Call.Wait n a spare in
    cond_both (ltb 15 n) _ _ (Met d c (call_tests d c))
    (λ e. record { first = inl (number_high n e, refl); leaves = refl })
    (λ e. past (number_low n e) (wait_met d (waiter_at d.waiters n) n a spare))
step_met d (Call.Resume n spare) =
    let c = Call.Resume n spare in
    cond_both (ltb 15 n) _ _ (Met d c (call_tests d c))
    (λ e. record { first = inl (number_high n e, refl); leaves = refl })
    (λ e. past (number_low n e) (resume_met d (waiter_at d.waiters n) n spare))
step_met d (Call.Completion a) = record { first = refl; leaves = tt }
step_met d (Call.Link parent child parent_hash) = record { first = refl; leaves = tt }
step_met d Call.Report = record { first = refl; leaves = tt }
step_met d Call.Stats = record { first = refl; leaves = tt }
step_met d Call.Heads = record { first = refl; leaves = tt }
