-- What a call may do to a driver. The calls' tests are gone through here once; what every call keeps is then shown for each of these moves.
use Rattle.std.proofs.lemmas.Bool.{cond_both, or_parts}
use Rattle.std.specs.Prelude.{Option, None, Some, Result, not, ◌||◌}
use Prim.Native.Nat.{ℕ}
use mathlib.Core.Bool.{true, false}
use mathlib.Core.Path.{◌≡◌, refl, sym, subst}
use lib.Dec.{ltb}
use Rattle.hash.specs.declared.Hash.{Hash}
use Rattle.head_values.specs.Anchors.{holds, same_anchor}
use Rattle.head_values.specs.Lists.{apply_prepared, as_prepared}
use Rattle.head_values.specs.declared.PreparedBal.{PreparedBal}
use Rattle.head_values.specs.declared.ReadAnchor.{ReadAnchor}
use Rattle.head_count.specs.Counters.{raise, record_view}
use Rattle.head_count.specs.declared.Counter.{Counter}
use Rattle.head_count.specs.declared.Epoch.{Epoch}
use Rattle.head_count.specs.declared.Seq.{Seq}
use Rattle.head_attempt.specs.declared.HeadCompletion.{HeadCompletion}
use Rattle.head_attempt.specs.declared.Waiter.{Waiter}
use Rattle.head_ready.specs.Generations.{is_ready, slot_anchor}
use Rattle.head_ready.specs.declared.HeadOutcome.{HeadOutcome}
use Rattle.head_ready.specs.declared.HeadView.{HeadView}
use Rattle.head_current.specs.Heads.{delivery, is_preparing, is_settled, preparing_at, has_ticket}
use Rattle.head_current.specs.declared.CurrentHead.{CurrentHead}
use Rattle.head_current.specs.declared.HeadDelivery.{HeadDelivery}
use Rattle.head_current.specs.declared.HeadTicket.{HeadTicket}
use Rattle.head_current.specs.declared.PrepareClaim.{PrepareClaim}
use Rattle.head_current.specs.declared.UnsettledHead.{UnsettledHead}
use Rattle.head_call.specs.declared.Call.{Call}
use Rattle.head_life.specs.Apply.{plan_apply, plan_held, record_settle}
use Rattle.head_life.specs.Claim.{claim_life, claim_held}
use Rattle.head_life.specs.Deliver.{deliver_life, repeats}
use Rattle.head_life.specs.Deliver.{new_head}
use Rattle.head_life.specs.Release.{release_life}
use Rattle.head_life.specs.State.{counted, view_counted, with_stats}
use Rattle.head_life.specs.declared.ApplyPlan.{ApplyPlan}
use Rattle.head_life.specs.declared.HeadLifecycle.{HeadLifecycle}
use Rattle.head_driver.specs.Moved.{moved, woken_waiters}
use Rattle.head_driver.specs.Parts.{with_life}
use Rattle.head_driver.specs.declared.Driver.{Driver}
use Rattle.head_driver.specs.declared.Reply.{Reply}
use Rattle.head_calls.specs.Apply.{apply, apply_planned, apply_settled}
use Rattle.head_calls.specs.Claim.{claim}
use Rattle.head_calls.specs.Deliver.{deliver}
use Rattle.head_calls.specs.Release.{release}
use Rattle.head_waits.specs.Parts.{put}
use Rattle.head_waits.specs.Snapshot.{snapshot, viewed}
use Rattle.head_waits.specs.Waits.{resume, resume_as, view_frees, wait, wait_as, waits_anew}
use Rattle.head_asks.specs.Asks.{completion, heads, link, last_report, stats}
use Rattle.head_step.specs.Steps.{step}
use Rattle.alike.proofs.Nexts.{Released, claim_reply, claimed_at, deliver_reply, delivered_at, released_at, released_either}
use Rattle.alike.proofs.Tests.{true_false}
use Rattle.alike.proofs.Waking.{woken_not_moved}

pub data Move (d : Driver) : Call → Driver → Type 0 where
  none : {c : Call} → Move d c d
  -- a counter other than delivered
  counts : {c : Call} (k : Counter) → (raise k d.life.stats).delivered ≡ d.life.stats.delivered → Move d c (with_life d (counted d.life k))
  frees : {c : Call} {e : Driver} (n : ℕ) → Move d c e → Move d c (put e n Waiter.Free)
  parks : {c : Call} (n : ℕ) (a : ReadAnchor) → preparing_at d.life.current a ≡ true → Move d c (put d n Waiter.Parked)
  delivers : (a : ReadAnchor) (p : Hash) (cold : ℕ) → Move d (Call.Deliver a p cold) (moved d (delivered_at (holds (slot_anchor d.life.installed) a) d.life a p cold) HeadCompletion.Superseded)
  claims : {c : Call} (u : UnsettledHead) → d.life.current ≡ CurrentHead.Unclaimed u → Move d c (with_life d (claimed_at d.life))
  releases : {c : Call} (u : UnsettledHead) → d.life.current ≡ CurrentHead.Preparing u → Move d c (moved d (released_at d.life u) HeadCompletion.Abandoned)
  settles : (ticket : HeadTicket) (list : PreparedBal) (handle carried report : ℕ) (held : HeadDelivery) → delivery d.life.current ≡ Some held
      → holds (slot_anchor d.life.installed) held.anchor ≡ false
      → Move d (Call.Apply ticket list handle carried report)
      (moved d
      (record_settle d.life held
      (apply_prepared (slot_anchor d.life.installed) held.anchor held.parent_hash list.skip carried) handle report)
      HeadCompletion.Settled)

-- a property of the driver that a reply leaves
abbrev Leaves : Driver → Call → Reply → Type 0
Leaves d c r = Move d c r.driver

module _ (d : Driver) (c : Call) where
  viewed_move : (v shown : HeadView) → Leaves d c (viewed d v shown)
  unfolding viewed view_counted record_view counted raise
  viewed_move v shown = cond_both (is_ready v.readiness) _ _ (λ s. Move d c (with_life d (with_stats d.life s))) (λ e. counts Counter.ReadyViews refl) (λ e. counts Counter.ColdViews refl)

  view_frees_move : (n : ℕ) (v shown : HeadView) → Leaves d c (view_frees d n v shown)
  unfolding view_frees viewed put with_life
  view_frees_move n v shown = frees n (viewed_move v shown)

  anew_move : (n : ℕ) (a : ReadAnchor) (spare : ℕ) → Leaves d c (waits_anew d n a spare)
  unfolding waits_anew
  anew_move n a spare = cond_both (preparing_at d.life.current a) _ _ (Leaves d c) (λ e. parks n a e) (λ e. view_frees_move n _ _)

  wait_move : (w : Waiter) (n : ℕ) (a : ReadAnchor) (spare : ℕ) → Leaves d c (wait_as d n a spare w)
  unfolding wait_as
  wait_move Waiter.Free n a spare = anew_move n a spare
  wait_move Waiter.Parked n a spare = none
  wait_move (Waiter.Abandoned b) n a spare = none
  wait_move (Waiter.Ended b) n a spare = none

  resume_move : (w : Waiter) (n : ℕ) (spare : ℕ) → Leaves d c (resume_as d n spare w)
  unfolding resume_as
  resume_move Waiter.Free n spare = none
  resume_move Waiter.Parked n spare = none
  resume_move (Waiter.Abandoned b) n spare = view_frees_move n _ _
  resume_move (Waiter.Ended b) n spare = anew_move n b spare

  -- what is neither settled nor preparing, and has been delivered, is unclaimed
  unclaimed_move : (head : CurrentHead) (held : HeadDelivery) → d.life.current ≡ head → delivery head ≡ Some held → is_settled head ≡ false → is_preparing head ≡ false → Move d c (with_life d (claimed_at d.life))
  unfolding delivery is_settled is_preparing
  unclaimed_move CurrentHead.Absent held q h s p = cc
  unclaimed_move (CurrentHead.Unclaimed u) held q h s p = claims u q
  unclaimed_move (CurrentHead.Preparing u) held q h s p = true_false refl p
  unclaimed_move (CurrentHead.Settled x) held q h s p = true_false refl s

  claim_move : (slot : Option HeadDelivery) (ticket : HeadTicket) → delivery d.life.current ≡ slot → Leaves d c (claim_reply d (claim_held slot d.life ticket))
  unfolding claim_held with_life
  claim_move None ticket q = none
  claim_move (Some held) ticket q =
      let P = λ (r : HeadLifecycle × Result Epoch HeadOutcome). Leaves d c (claim_reply d r) in
      cond_both (not (has_ticket held ticket)) _ _ P (λ e. none)
      (λ e. cond_both (holds (slot_anchor d.life.installed) held.anchor || is_settled d.life.current) _ _ P (λ e. none)
      (λ e. cond_both (is_preparing d.life.current) _ _ P (λ f. none)
      (λ f. unclaimed_move d.life.current held refl q (or_parts _ _ e).1 f)))

  -- a head that stays as it is wakes none
  stays : (l : HeadLifecycle) (t : HeadCompletion) → l.current ≡ d.life.current → Move d c (with_life d l) → Move d c (moved d l t)
  unfolding moved with_life
  stays l t q m =
      let w : woken_waiters t d.life.current l.current d.waiters ≡ d.waiters = rw q (woken_not_moved t d.life.current d.waiters) in
      subst (λ ws. Move d c (record { life = l; waiters = ws })) (sym w) m

  -- the lifecycle with that head
  abbrev headed : CurrentHead → HeadLifecycle
  headed head = record {
    current = head;
    superseded = d.life.superseded;
    installed = d.life.installed;
    previous = d.life.previous;
    seq = d.life.seq;
    claim_epoch = d.life.claim_epoch;
    stats = d.life.stats;
  }

  release_move : (owner : PrepareClaim) → Released d.life.current owner → Move d c (moved d (release_life d.life owner) HeadCompletion.Abandoned)
  unfolding release_life with_life
  release_move owner (Released.kept e) = stays (release_life d.life owner) HeadCompletion.Abandoned e (subst (λ x. Move d c (with_life d (headed x))) (sym e) none)
  release_move owner (Released.given_up u q o e) = subst (λ x. Move d c (moved d (headed x) HeadCompletion.Abandoned)) (sym e) (releases u q)

-- a delivery of what is current repeats it; any other replaces it
deliver_move : (d : Driver) (a : ReadAnchor) (p : Hash) (cold : ℕ) → Leaves d (Call.Deliver a p cold) (deliver_reply d (deliver_life d.life a p cold))
unfolding deliver_life new_head raise counted
deliver_move d a p cold = cond_both (repeats (delivery d.life.current) a p) _ _ (λ (r : HeadLifecycle × Seq). Leaves d (Call.Deliver a p cold) (deliver_reply d r))
    (λ e. stays d (Call.Deliver a p cold) (counted d.life Counter.Repeated) HeadCompletion.Superseded refl (counts Counter.Repeated refl))
    (λ e. delivers a p cold)

module _ (d : Driver) (ticket : HeadTicket) (list : PreparedBal) (handle carried report : ℕ) where
  abbrev Applies : HeadLifecycle × ApplyPlan → Type 0
  Applies r = Leaves d (Call.Apply ticket list handle carried report) (apply_planned d r.0 r.1 list.skip handle carried report)

  plan_move : (slot : Option HeadDelivery) → delivery d.life.current ≡ slot → Applies (plan_held slot d.life ticket list.anchor)
  unfolding plan_held apply_planned apply_settled raise with_life
  plan_move None q = counts Counter.Discarded refl
  plan_move (Some held) q =
      cond_both (not (has_ticket held ticket)) _ _ Applies (λ e. counts Counter.Discarded refl)
      (λ e. cond_both (not (same_anchor list.anchor held.anchor)) _ _ Applies (λ e. counts Counter.Discarded refl)
      (λ e. cond_both (holds (slot_anchor d.life.installed) held.anchor) _ _ Applies (λ e. none) (λ e. settles ticket list handle carried report held q e)))

  apply_move : Leaves d (Call.Apply ticket list handle carried report) (apply d ticket list handle carried report)
  unfolding apply plan_apply
  apply_move = cond_both (not (as_prepared list)) _ _ (Leaves d (Call.Apply ticket list handle carried report)) (λ e. none) (λ e. plan_move (delivery d.life.current) refl)

pub step_move : (d : Driver) (c : Call) → Move d c (step d c).driver
unfolding step deliver claim claim_life with_life release snapshot wait resume completion link last_report stats heads
step_move d (Call.Deliver a p cold) = deliver_move d a p cold
step_move d (Call.Claim ticket) = claim_move d _ (delivery d.life.current) ticket refl
step_move d (Call.Release owner) = release_move d _ owner (released_either d.life.current owner)
step_move d (Call.Apply ticket list handle carried report) = apply_move d ticket list handle carried report
step_move d (Call.Snapshot a spare) = viewed_move d _ _ _
step_move d (Call.Wait n a spare) = cond_both (ltb 15 n) _ _ (Leaves d _) (λ e. none) (λ e. wait_move d _ _ n a spare)
step_move d (Call.Resume n spare) = cond_both (ltb 15 n) _ _ (Leaves d _) (λ e. none) (λ e. resume_move d _ _ n spare)
step_move d (Call.Completion a) = none
step_move d (Call.Link parent child parent_hash) = none
step_move d Call.Report = none
step_move d Call.Stats = none
step_move d Call.Heads = none
