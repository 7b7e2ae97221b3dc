-- Probes of the waiters. A resume of a waiter, where the head is preparing at an anchor, tells a free one, one that is parked or stays so, and one that gets a view: of the
-- head's own anchor or of another. Brought to a preparation at its own anchor, a waiter that is not parked tells all; a parked one is released first.
use Rattle.std.proofs.lemmas.Option.{same_Some}
use Rattle.std.proofs.lemmas.Bool.{and_parts, cond_both, false_from_ne_true}
use Rattle.std.specs.Prelude.{Option, None, Some, cond}
use Rattle.head_ready.specs.declared.Generation.{Generation}
use Rattle.head_current.specs.declared.HeadDelivery.{HeadDelivery}
use Prim.Native.Nat.{ℕ, ◌<◌}
use mathlib.Core.Bool.{Bool, true, false}
use mathlib.Core.List.{List}
use mathlib.Core.Path.{◌≡◌, refl, sym, ap, ◌∙◌}
use native.Mathlib.Omega.{arith}
use lib.Dec.{lit<}
use lib.Seq.{ext_get_or}
use Rattle.head_values.specs.Anchors.{holds, same_anchor}
use Rattle.head_attempt.specs.Waiters.{slot_of, woken}
use Rattle.head_current.specs.Heads.{anchor_of, delivery, preparing_at, is_preparing, is_settled}
use Rattle.head_life.specs.Deliver.{repeats, deliver_life, new_head}
use Rattle.head_current.specs.Moves.{claimed_head}
use Rattle.head_life.specs.Claim.{claim_life, claim_held}
use Rattle.head_driver.specs.Moved.{moved, woken_waiters}
use Rattle.head_driver.specs.Parts.{with_life}
use Rattle.head_calls.specs.Claim.{claim}
use Rattle.head_calls.specs.Deliver.{deliver}
use Rattle.head_waits.specs.Snapshot.{viewed}
use Rattle.head_ready.specs.Generations.{is_ready, view_of}
use Rattle.head_life.specs.State.{counted}
use Rattle.head_step.specs.Steps.{step}
use Rattle.head_life.specs.Views.{generation_view, spare_view, view}
use Rattle.head_waits.specs.Waits.{abandoned_view, waits_anew, resume, resume_as, shown_by_wait, view_frees, resume_as}
use Rattle.head_waits.specs.Parts.{waiter_at}
use Rattle.hash.specs.declared.Hash.{Hash}
use Rattle.head_values.specs.declared.ReadAnchor.{ReadAnchor}
use Rattle.head_attempt.specs.declared.HeadCompletion.{HeadCompletion}
use Rattle.head_count.specs.declared.Seq.{Seq}
use Rattle.head_attempt.specs.declared.Waiter.{Waiter}
use Rattle.head_attempt.specs.declared.WaiterSlot.{WaiterSlot}
use Rattle.head_current.specs.declared.CurrentHead.{CurrentHead}
use Rattle.head_current.specs.declared.UnsettledHead.{UnsettledHead}
use Rattle.head_driver.specs.declared.Answer.{Answer}
use Rattle.head_driver.specs.declared.Driver.{Driver}
use Rattle.head_ready.specs.declared.HeadCold.{HeadCold}
use Rattle.head_life.specs.declared.HeadLifecycle.{HeadLifecycle}
use Rattle.head_ready.specs.declared.HeadReadiness.{HeadReadiness}
use Rattle.head_ready.specs.declared.HeadView.{HeadView}
use Rattle.head_ready.specs.declared.Source.{Source}
use Rattle.head_call.specs.declared.Call.{Call}
use Rattle.alike.proofs.Alike.{unsettled_at}
use Rattle.alike.proofs.Brought.{cold_step, delivering, outside, outside_first, outside_fits, release_hit, zeros, zeros_fit}
use Rattle.alike.proofs.DeepProbes.{twin_cold, twin_colded}
use Rattle.alike.proofs.Poses.{Pose, Unsettled, by_pose, current_anchor, installed_anchor, not_installed, pose, preparing_of, provisional_of, settled_anchor}
use Rattle.alike.proofs.Probes.{anchor_fits, probe_anchors, probe_pose, probe_seq, twin_anchor, twin_unsettled, zero_fits}
use Rattle.alike.proofs.Replies.{current_pass, ticket_ok, view_current}
use Rattle.alike.proofs.Tests.{anchor_same, by_test, holds_same, same_anchor_lem, same_holds, true_false, at_most_15}
use Rattle.alike.proofs.Twins.{Twin, twin_answer, twin_step, twin_sym}
use Rattle.alike.proofs.Waking.{at_fits, at_none, wake_at, woken_not, woken_at}
use Rattle.alike.specs.Invariant.{NotParked, Ordered, Parks}
use Rattle.head_values.specs.Ranges.{AnchorFits}
use Rattle.alike.specs.Ranges.{WaiterFits}
use Rattle.head_attempt.specs.Attempts.{publish, first_end, minted}
use Rattle.alike.proofs.Nexts.{released_at}

-- what a resume's answer tells
abbrev vacant : ℕ
vacant = 0

abbrev stays : ℕ
stays = 1

abbrev shown_here : ℕ
shown_here = 2

abbrev shown_elsewhere : ℕ
shown_elsewhere = 3

abbrev source_tells : Source → ℕ
source_tells (Source.Installed n) = shown_elsewhere
source_tells Source.Provisional = shown_here
source_tells (Source.Previous n) = shown_elsewhere
source_tells Source.Spare = shown_elsewhere

abbrev tells : Answer → ℕ
tells (Answer.Ticket n) = 4
tells (Answer.Claimed e) = 4
tells Answer.Done = 4
tells (Answer.Outcome o) = 4
tells (Answer.View v) = source_tells v.source
tells Answer.Parked = stays
tells (Answer.Completion t) = 4
tells (Answer.Link k) = 4
tells (Answer.Report r) = 4
tells (Answer.Stats s) = 4
tells (Answer.Heads c i p) = 4
tells Answer.ListDisagrees = 4
tells Answer.WaiterAbove15 = 4
tells Answer.WaiterNotFree = 4
tells Answer.WaiterFree = vacant

-- the mark of a waiter, for a head that is preparing at that anchor
abbrev mark : ReadAnchor → Waiter → ℕ
mark a Waiter.Free = vacant
mark a Waiter.Parked = stays
mark a (Waiter.Abandoned b) = cond (same_anchor a b) shown_here shown_elsewhere
mark a (Waiter.Ended b) = cond (same_anchor a b) stays shown_elsewhere

-- One-sided: a resume tells the mark.

prepares_at : (c : CurrentHead) (a : ReadAnchor) → pose c ≡ Pose.Preparing → anchor_of (delivery c) ≡ Some a → (b : ReadAnchor) → (preparing_at c b ≡ same_anchor a b) × (unsettled_at c b ≡ same_anchor a b)
unfolding preparing_at anchor_of delivery
prepares_at c a k e b =
    let u = preparing_of c k in
    let z : u.0.delivery.anchor ≡ a = same_Some _ _ (sym (ap (λ x. anchor_of (delivery x)) u.1) ∙ e) in
    rw (u.1, z) (refl, refl)

-- a view of another anchor than the unsettled head's is never provisional
generation_source : (k : Seq → Source) (g : Option Generation) (a : ReadAnchor) (o : HeadView)
    → ((n : Seq) → source_tells (k n) ≡ shown_elsewhere) → source_tells o.source ≡ shown_elsewhere
    → source_tells (generation_view k g a o).source ≡ shown_elsewhere
unfolding generation_view
generation_source k None a o p q = q
generation_source k (Some g) a o p q =
    cond_both (same_anchor g.anchor a) _ _ (λ (v : HeadView). source_tells v.source ≡ shown_elsewhere) (λ e. p g.seq) (λ e. q)

view_source : (l : HeadLifecycle) (b : ReadAnchor) (spare : ℕ) → unsettled_at l.current b ≡ false → source_tells (view l b spare).source ≡ shown_elsewhere
unfolding view spare_view
view_source l b spare e =
    generation_source _ l.installed b _ (λ n. refl)
    (rw (current_pass l.current b _ e) (generation_source _ l.previous b _ (λ n. refl) refl))

abandoned_source : (v : HeadView) (spare : ℕ) → source_tells v.source ≡ shown_elsewhere → source_tells (abandoned_view v spare).source ≡ shown_elsewhere
unfolding abandoned_view
abandoned_source v spare e = cond_both (is_ready v.readiness) _ _ (λ (x : HeadView). source_tells x.source ≡ shown_elsewhere) (λ z. refl) (λ z. e)

module _ (d : Driver) (v : Ordered d.life) (a : ReadAnchor) (k : pose d.life.current ≡ Pose.Preparing) (e : current_anchor d ≡ Some a) where
  view_own : (b : ReadAnchor) (spare : ℕ) → same_anchor a b ≡ true → view d.life b spare ≡ view_of Source.Provisional (provisional_of d.life.current) (HeadReadiness.Cold HeadCold.Unprepared)
  view_own b spare t =
      let u : Unsettled (pose d.life.current) = rw k tt in
      let q = e ∙ ap Some (same_anchor_lem a b t) in
      view_current d.life b spare u q (not_installed d.life v _ refl u b q)

  view_other : (b : ReadAnchor) (spare : ℕ) → same_anchor a b ≡ false → source_tells (view d.life b spare).source ≡ shown_elsewhere
  view_other b spare f = view_source d.life b spare ((prepares_at d.life.current a k e b).1 ∙ f)

  resume_tells : (w : Waiter) (n spare : ℕ) → tells (resume_as d n spare w).answer ≡ mark a w
  unfolding resume_as view_frees viewed waits_anew shown_by_wait
  resume_tells Waiter.Free n spare = refl
  resume_tells Waiter.Parked n spare = refl
  resume_tells (Waiter.Abandoned b) n spare = by_test (same_anchor a b)
      (λ t. rw (t, view_own b spare t) (unfold abandoned_view is_ready in refl))
      (λ f. rw f (abandoned_source (view d.life b spare) spare (view_other b spare f)))
  resume_tells (Waiter.Ended b) n spare = rw (prepares_at d.life.current a k e b).0 (by_test (same_anchor a b)
      (λ t. rw t refl)
      (λ f. rw f (view_other b spare f)))

-- Twins that are preparing at an anchor have the same marks.

twin_mark : {d₁ d₂ : Driver} → Twin d₁ d₂ → (a : ReadAnchor) → pose d₁.life.current ≡ Pose.Preparing → current_anchor d₁ ≡ Some a → (n : ℕ) → n < 16 → mark a (waiter_at d₁.waiters n) ≡ mark a (waiter_at d₂.waiters n)
unfolding step resume
twin_mark {d₁} {d₂} w a k e n b =
    let q = rw (at_most_15 n b) at (twin_answer w (Call.Resume n 0) (omega arith, zero_fits)) in
    sym (resume_tells d₁ w.invariant₁.ordered a k e (waiter_at d₁.waiters n) n 0)
    ∙ ap tells q
    ∙ resume_tells d₂ w.invariant₂.ordered a (sym (probe_pose w) ∙ k) (twin_anchor w a e) (waiter_at d₂.waiters n) n 0

-- A delivery of an anchor that is not installed leaves it unsettled, and every waiter that is not parked as it was.

record Delivered (d : Driver) (a : ReadAnchor) (e : Driver) : Type 0 where
  unsettles : Unsettled (pose e.life.current)
  anchors : current_anchor e ≡ Some a
  keeps : (n : ℕ) → NotParked (waiter_at d.waiters n) → waiter_at e.waiters n ≡ waiter_at d.waiters n

repeated_anchor : (s : Option HeadDelivery) (a : ReadAnchor) (p : Hash) → repeats s a p ≡ true → anchor_of s ≡ Some a
unfolding repeats anchor_of
repeated_anchor None a p e = cc
repeated_anchor (Some held) a p e = ap Some (same_anchor_lem _ _ (and_parts _ _ e).0)

deliver_kept : (d : Driver) → Ordered d.life → (a : ReadAnchor) → holds (installed_anchor d) a ≡ false → Delivered d a (step d (delivering a)).driver
unfolding step deliver deliver_life new_head moved counted
deliver_kept d v a o = by_test (repeats (delivery d.life.current) a zeros)
    (λ t.
    let c = repeated_anchor (delivery d.life.current) a zeros t in
    rw t (record {
      unsettles = by_pose (pose d.life.current) (λ u. u) (λ n. true_false (same_holds _ _ (sym (settled_anchor d.life v _ refl n) ∙ c)) o);
      anchors = c;
      keeps = λ n z. woken_at HeadCompletion.Superseded d.life.current d.life.current d.waiters n z;
    }))
    (λ f. rw (f, o) (record { unsettles = tt; anchors = unfold delivery anchor_of in refl; keeps = λ n z. woken_at HeadCompletion.Superseded d.life.current _ d.waiters n z }))

-- A claim of an unsettled head leaves it preparing.

record Prepared (d : Driver) (a : ReadAnchor) (e : Driver) : Type 0 where
  prepares : pose e.life.current ≡ Pose.Preparing
  anchors : current_anchor e ≡ Some a
  keeps : e.waiters ≡ d.waiters

claiming : ReadAnchor → Seq → Call
claiming a n = Call.Claim (record { anchor = a; seq = n })

claim_prepares : (d : Driver) → Ordered d.life → (c : CurrentHead) → d.life.current ≡ c → Unsettled (pose c) → (a : ReadAnchor) → anchor_of (delivery c) ≡ Some a → Prepared d a (step d (claiming a d.life.seq)).driver
unfolding claiming step claim claim_life claim_held claimed_head with_life delivery anchor_of is_settled is_preparing
claim_prepares d v CurrentHead.Absent q u a e = absurd u
claim_prepares d v (CurrentHead.Unclaimed x) q u a e =
    rw (q, ticket_ok x.delivery a d.life.seq (same_Some _ _ e) (rw q at v.seq_current), not_installed d.life v _ q tt _ refl) (record { prepares = refl; anchors = e; keeps = refl })
claim_prepares d v (CurrentHead.Preparing x) q u a e =
    rw (q, ticket_ok x.delivery a d.life.seq (same_Some _ _ e) (rw q at v.seq_current), not_installed d.life v _ q tt _ refl) (record { prepares = refl; anchors = e; keeps = refl })
claim_prepares d v (CurrentHead.Settled x) q u a e = absurd u

-- Waiters that are not parked have the same mark at every anchor: the anchor is delivered and claimed. Where it is installed, another is installed in its place first.

module _ (a : ReadAnchor) (f : AnchorFits a) (n : ℕ) (b : n < 16) where
  abbrev Marked : Driver → Driver → Type 0
  Marked d e = mark a (waiter_at d.waiters n) ≡ mark a (waiter_at e.waiters n)

  marks_claim : {d₁ d₂ : Driver} → Twin d₁ d₂ → Unsettled (pose d₁.life.current) → current_anchor d₁ ≡ Some a → Marked d₁ d₂
  marks_claim {d₁} {d₂} w u e =
      let z = twin_step w (claiming a d₁.life.seq) (unfold claiming in (f, w.invariant₁.fits.life.seq)) in
      let p₁ = claim_prepares d₁ w.invariant₁.ordered _ refl u a e in
      let p₂ : Prepared d₂ a (step d₂ (claiming a d₁.life.seq)).driver = rw (probe_seq w) (claim_prepares d₂ w.invariant₂.ordered _ refl (twin_unsettled w u) a (twin_anchor w a e)) in
      ap (λ ws. mark a (waiter_at ws n)) (sym p₁.keeps) ∙ twin_mark z a p₁.prepares p₁.anchors n b ∙ ap (λ ws. mark a (waiter_at ws n)) p₂.keeps

  marks_deliver : {d₁ d₂ : Driver} → Twin d₁ d₂ → holds (installed_anchor d₁) a ≡ false → NotParked (waiter_at d₁.waiters n) → NotParked (waiter_at d₂.waiters n) → Marked d₁ d₂
  marks_deliver {d₁} {d₂} w o k₁ k₂ =
      let z = twin_step w (delivering a) (f, zeros_fit, zero_fits) in
      let p₁ = deliver_kept d₁ w.invariant₁.ordered a o in
      let p₂ = deliver_kept d₂ w.invariant₂.ordered a (rw (probe_anchors w).1 at o) in
      ap (mark a) (sym (p₁.keeps n k₁)) ∙ marks_claim z p₁.unsettles p₁.anchors ∙ ap (mark a) (p₂.keeps n k₂)

  -- another anchor than this
  elsewhere : ReadAnchor
  elsewhere = outside (Some a) None

  elsewhere_not : same_anchor a elsewhere ≡ false
  unfolding elsewhere holds
  elsewhere_not = outside_first (Some a) None

  marks_cold : {d₁ d₂ : Driver} → Twin d₁ d₂ → Unsettled (pose d₁.life.current) → current_anchor d₁ ≡ Some elsewhere → NotParked (waiter_at d₁.waiters n) → NotParked (waiter_at d₂.waiters n) → Marked d₁ d₂
  unfolding holds
  marks_cold {d₁} {d₂} w u e k₁ k₂ =
      let z = twin_cold w elsewhere (anchor_fits w elsewhere e) in
      let c₁ = cold_step d₁ w.invariant₁.ordered u elsewhere e in
      let c₂ = twin_colded w u elsewhere e in
      let q₁ = ap (λ ws. waiter_at ws n) c₁.wakes ∙ woken_at HeadCompletion.Settled d₁.life.current _ d₁.waiters n k₁ in
      let q₂ = ap (λ ws. waiter_at ws n) c₂.wakes ∙ woken_at HeadCompletion.Settled d₂.life.current _ d₂.waiters n k₂ in
      let i : same_anchor elsewhere a ≡ false = false_from_ne_true _ (λ t. true_false (anchor_same a elsewhere (sym (same_anchor_lem _ _ t))) elsewhere_not) in
      ap (mark a) (sym q₁) ∙ marks_deliver z (rw c₁.installs i) (rw q₁ k₁) (rw q₂ k₂) ∙ ap (mark a) q₂

  marks_installed : {d₁ d₂ : Driver} → Twin d₁ d₂ → holds (installed_anchor d₁) a ≡ true → NotParked (waiter_at d₁.waiters n) → NotParked (waiter_at d₂.waiters n) → Marked d₁ d₂
  unfolding holds
  marks_installed {d₁} {d₂} w o k₁ k₂ =
      let z = twin_step w (delivering elsewhere) (unfold elsewhere in outside_fits (Some a) None, zeros_fit, zero_fits) in
      let i : holds (installed_anchor d₁) elsewhere ≡ false = rw (holds_same (installed_anchor d₁) a o) elsewhere_not in
      let p₁ = deliver_kept d₁ w.invariant₁.ordered elsewhere i in
      let p₂ = deliver_kept d₂ w.invariant₂.ordered elsewhere (rw (probe_anchors w).1 at i) in
      ap (mark a) (sym (p₁.keeps n k₁)) ∙ marks_cold z p₁.unsettles p₁.anchors (rw (p₁.keeps n k₁) k₁) (rw (p₂.keeps n k₂) k₂) ∙ ap (mark a) (p₂.keeps n k₂)

  marks : {d₁ d₂ : Driver} → Twin d₁ d₂ → NotParked (waiter_at d₁.waiters n) → NotParked (waiter_at d₂.waiters n) → Marked d₁ d₂
  marks {d₁} {d₂} w k₁ k₂ = by_test (holds (installed_anchor d₁) a) (λ t. marks_installed w t k₁ k₂) (λ o. marks_deliver w o k₁ k₂)

-- Two numbers that a choice tells apart.

first_of : (t : Bool) (x y : ℕ) → x < y → x ≡ cond t x y → t ≡ true
first_of true x y h e = refl
first_of false x y h e = absurd (omega arith)

neither_of : {X : Type 0} (t : Bool) (k x y : ℕ) → (k ≡ x → ⊥) → (k ≡ y → ⊥) → k ≡ cond t x y → X
neither_of true k x y p q e = absurd (p e)
neither_of false k x y p q e = absurd (q e)

-- the marks at its own anchor tell a waiter that is not parked
open_waiters : (x y : Waiter) → NotParked x → NotParked y → ((a : ReadAnchor) → AnchorFits a → mark a x ≡ mark a y) → WaiterFits x → WaiterFits y → x ≡ y
open_waiters Waiter.Free Waiter.Free p q m f g = refl
open_waiters Waiter.Free Waiter.Parked p q m f g = absurd q
open_waiters Waiter.Free (Waiter.Abandoned b) p q m f g = neither_of (same_anchor b b) vacant shown_here shown_elsewhere (λ z. omega arith) (λ z. omega arith) (m b g)
open_waiters Waiter.Free (Waiter.Ended b) p q m f g = neither_of (same_anchor b b) vacant stays shown_elsewhere (λ z. omega arith) (λ z. omega arith) (m b g)
open_waiters Waiter.Parked y p q m f g = absurd p
open_waiters (Waiter.Abandoned a) Waiter.Free p q m f g = neither_of (same_anchor a a) vacant shown_here shown_elsewhere (λ z. omega arith) (λ z. omega arith) (sym (m a f))
open_waiters (Waiter.Abandoned a) Waiter.Parked p q m f g = absurd q
open_waiters (Waiter.Abandoned a) (Waiter.Abandoned b) p q m f g = ap Waiter.Abandoned (same_anchor_lem a b (first_of (same_anchor a b) shown_here shown_elsewhere (lit< tt) (rw (anchor_same a a refl) at (m a f))))
open_waiters (Waiter.Abandoned a) (Waiter.Ended b) p q m f g = neither_of (same_anchor a b) shown_here stays shown_elsewhere (λ z. omega arith) (λ z. omega arith) (rw (anchor_same a a refl) at (m a f))
open_waiters (Waiter.Ended a) Waiter.Free p q m f g = neither_of (same_anchor a a) vacant stays shown_elsewhere (λ z. omega arith) (λ z. omega arith) (sym (m a f))
open_waiters (Waiter.Ended a) Waiter.Parked p q m f g = absurd q
open_waiters (Waiter.Ended a) (Waiter.Abandoned b) p q m f g = neither_of (same_anchor a b) stays shown_here shown_elsewhere (λ z. omega arith) (λ z. omega arith) (rw (anchor_same a a refl) at (m a f))
open_waiters (Waiter.Ended a) (Waiter.Ended b) p q m f g = ap Waiter.Ended (same_anchor_lem a b (first_of (same_anchor a b) stays shown_elsewhere (lit< tt) (rw (anchor_same a a refl) at (m a f))))

probe_open : {d₁ d₂ : Driver} → Twin d₁ d₂ → (n : ℕ) → n < 16 → NotParked (waiter_at d₁.waiters n) → NotParked (waiter_at d₂.waiters n) → waiter_at d₁.waiters n ≡ waiter_at d₂.waiters n
probe_open {d₁} {d₂} w n b k₁ k₂ = open_waiters _ _ k₁ k₂ (λ a f. marks a f n b w k₁ k₂) (at_fits d₁.waiters n w.invariant₁.fits.waiters) (at_fits d₂.waiters n w.invariant₂.fits.waiters)

-- A parked waiter: the release that abandons it leaves a waiter that is not parked.

parked_pose : (c : CurrentHead) (ws : List WaiterSlot) (n : ℕ) → Parks c ws → waiter_at ws n ≡ Waiter.Parked → pose c ≡ Pose.Preparing
parked_pose CurrentHead.Absent ws n p e = absurd (rw e at (at_none ws n p))
parked_pose (CurrentHead.Unclaimed u) ws n p e = absurd (rw e at (at_none ws n p))
parked_pose (CurrentHead.Preparing u) ws n p e = refl
parked_pose (CurrentHead.Settled s) ws n p e = absurd (rw e at (at_none ws n p))

-- a waiter that is woken as a parked one is, and has its mark
parked_same : (a : ReadAnchor) (y : Waiter) → stays ≡ mark a y → Waiter.Abandoned a ≡ woken HeadCompletion.Abandoned a y → Waiter.Parked ≡ y
unfolding woken
parked_same a Waiter.Free m e = cc
parked_same a Waiter.Parked m e = refl
parked_same a (Waiter.Abandoned b) m e = neither_of (same_anchor a b) stays shown_here shown_elsewhere (λ z. omega arith) (λ z. omega arith) m
parked_same a (Waiter.Ended b) m e = cc

-- what a release leaves of the waiters of a preparing head: its attempt is open until then
released_waiter : (d : Driver) → Ordered d.life → (u : UnsettledHead) → d.life.current ≡ CurrentHead.Preparing u → (n : ℕ)
    → waiter_at (moved d (released_at d.life u) HeadCompletion.Abandoned).waiters n ≡ woken HeadCompletion.Abandoned u.delivery.anchor (waiter_at d.waiters n)
unfolding moved woken_waiters is_preparing publish first_end minted
released_waiter d v u q n =
    let t : u.attempt ≡ minted d.life.claim_epoch = rw q at v.preparing_attempt in
    rw (q, t) (wake_at HeadCompletion.Abandoned u.delivery.anchor d.waiters n)

probe_parked : {d₁ d₂ : Driver} → Twin d₁ d₂ → d₁.life.claim_epoch ≡ d₂.life.claim_epoch → (n : ℕ) → n < 16 → waiter_at d₁.waiters n ≡ Waiter.Parked → Waiter.Parked ≡ waiter_at d₂.waiters n
unfolding delivery anchor_of woken
probe_parked {d₁} {d₂} w e n b q =
    let v₁ = w.invariant₁.ordered in
    let v₂ = w.invariant₂.ordered in
    let k = parked_pose d₁.life.current d₁.waiters n w.invariant₁.parks q in
    let p₁ = preparing_of d₁.life.current k in
    let p₂ = preparing_of d₂.life.current (sym (probe_pose w) ∙ k) in
    let a = p₁.0.delivery.anchor in
    let a₁ : current_anchor d₁ ≡ Some a = ap (λ c. anchor_of (delivery c)) p₁.1 in
    let a₂ : p₂.0.delivery.anchor ≡ a = same_Some _ _ (sym (ap (λ c. anchor_of (delivery c)) p₂.1) ∙ twin_anchor w a a₁) in
    let z = rw (release_hit d₁ v₁ p₁.0 p₁.1 d₁.life.seq d₁.life.claim_epoch refl refl, release_hit d₂ v₂ p₂.0 p₂.1 d₁.life.seq d₁.life.claim_epoch (sym (probe_seq w)) (sym e))
    at (twin_step w (Call.Release (record { seq = d₁.life.seq; epoch = d₁.life.claim_epoch })) (w.invariant₁.fits.life.seq, w.invariant₁.fits.life.epoch)) in
    let x₁ = released_waiter d₁ v₁ p₁.0 p₁.1 n ∙ ap (woken HeadCompletion.Abandoned a) q in
    let x₂ = released_waiter d₂ v₂ p₂.0 p₂.1 n ∙ ap (λ c. woken HeadCompletion.Abandoned c (waiter_at d₂.waiters n)) a₂ in
    let m = twin_mark w a k a₁ n b in
    parked_same a (waiter_at d₂.waiters n) (rw q at m)
    (sym x₁ ∙ probe_open z n b (rw x₁ tt) (rw x₂ (woken_not HeadCompletion.Abandoned a (waiter_at d₂.waiters n) tt)) ∙ x₂)

-- Every waiter.

by_parked : {X : Type 0} (x : Waiter) → (x ≡ Waiter.Parked → X) → (NotParked x → X) → X
by_parked Waiter.Free f g = g tt
by_parked Waiter.Parked f g = f refl
by_parked (Waiter.Abandoned a) f g = g tt
by_parked (Waiter.Ended a) f g = g tt

probe_waiter : {d₁ d₂ : Driver} → Twin d₁ d₂ → d₁.life.claim_epoch ≡ d₂.life.claim_epoch → (n : ℕ) → n < 16 → waiter_at d₁.waiters n ≡ waiter_at d₂.waiters n
probe_waiter {d₁} {d₂} w e n b = by_parked (waiter_at d₁.waiters n)
    (λ p. p ∙ probe_parked w e n b p)
    (λ k₁. by_parked (waiter_at d₂.waiters n) (λ q. sym (q ∙ probe_parked (twin_sym w) (sym e) n b q)) (λ k₂. probe_open w n b k₁ k₂))

pub probe_waiters : {d₁ d₂ : Driver} → Twin d₁ d₂ → d₁.life.claim_epoch ≡ d₂.life.claim_epoch → d₁.waiters ≡ d₂.waiters
unfolding waiter_at
probe_waiters {d₁} {d₂} w e = ext_get_or (slot_of Waiter.Free) d₁.waiters d₂.waiters (w.invariant₁.fits.sixteen ∙ sym w.invariant₂.fits.sixteen)
    (λ n h. let q = probe_waiter w e n (rw w.invariant₁.fits.sixteen at h) in λ j. record { waiter = q j })
