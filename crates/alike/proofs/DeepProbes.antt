-- Probes of several calls: the last call's answer tells the part.
use Rattle.std.proofs.lemmas.Bool.{false_from_ne_true}
use Rattle.std.specs.Prelude.{Option, None, Some, cond}
use Rattle.head_ready.specs.declared.Generation.{Generation}
use Prim.Native.Nat.{◌<◌}
use mathlib.Core.Bool.{Bool, true, false}
use mathlib.Core.Path.{◌≡◌, refl, sym, ap, ◌∙◌}
use Rattle.head_values.specs.Anchors.{holds}
use Rattle.head_count.specs.Counters.{epoch_of, next_epoch, up}
use Rattle.head_current.specs.Heads.{anchor_of, delivery}
use Rattle.head_ready.specs.Generations.{slot_anchor}
use Rattle.head_step.specs.Steps.{step}
use Rattle.head_life.specs.Views.{spare_view}
use Rattle.head_values.specs.declared.ReadAnchor.{ReadAnchor}
use Rattle.head_count.specs.declared.Epoch.{Epoch}
use Rattle.head_current.specs.declared.CurrentHead.{CurrentHead}
use Rattle.head_driver.specs.declared.Answer.{Answer}
use Rattle.head_driver.specs.declared.Driver.{Driver}
use Rattle.head_ready.specs.declared.HeadCold.{HeadCold}
use Rattle.head_ready.specs.declared.HeadReadiness.{HeadReadiness}
use Rattle.head_ready.specs.declared.Source.{Source}
use Rattle.head_call.specs.declared.Call.{Call}
use Rattle.alike.proofs.Alike.{SameSuperseded, Telling}
use Rattle.alike.proofs.Brought.{Colded, cold_step, cold_writable, cold_call, deliver_new, delivered_new, delivering, outside, outside_first, outside_fits, outside_second, zeros_fit}
use Rattle.alike.proofs.Poses.{Pose, Unsettled, absent_of, by_pose, current_anchor, generation_fits, installed_anchor, not_installed, pose, previous_elsewhere, previous_empty, previous_anchor, settled_not_at, settled_pose}
use Rattle.alike.proofs.Probes.{anchor_fits, probe_anchors, probe_claim, probe_pose, probe_seq, same_generation, twin_anchor, twin_unsettled, zero_fits}
use Rattle.alike.proofs.Replies.{snapshot_previous, snapshot_spare}
use Rattle.alike.proofs.Tests.{by_test, holds_same, same_holds, true_false, up_same}
use Rattle.alike.proofs.Twins.{Twin, twin_answer, twin_step}
use Rattle.alike.specs.Invariant.{Ordered}
use Rattle.head_values.specs.Ranges.{AnchorFits, SlotFits}
use Rattle.head_life.specs.Deliver.{new_head}
use Rattle.head_driver.specs.Moved.{moved}

-- twins after a delivery that is new to both
twin_deliver : {d₁ d₂ : Driver} → Twin d₁ d₂ → (installed : Bool) (a : ReadAnchor) → AnchorFits a → holds (current_anchor d₁) a ≡ false → holds (installed_anchor d₁) a ≡ installed → Twin (delivered_new d₁ installed a) (delivered_new d₂ installed a)
twin_deliver {d₁} {d₂} w installed a f e o =
    rw (deliver_new d₁ a installed e o, deliver_new d₂ a installed (rw (probe_anchors w).0 at e) (rw (probe_anchors w).1 at o)) at (twin_step w (delivering a) (f, zeros_fit, zero_fits))

-- The epoch: a delivery of an anchor that is neither current nor installed, and a claim of it.

claimed_same : (e f : Epoch) → e.0 < 0xffff_ffff_ffff_ffff → f.0 < 0xffff_ffff_ffff_ffff → Answer.Claimed (next_epoch e) ≡ Answer.Claimed (next_epoch f) → e ≡ f
unfolding next_epoch
claimed_same e f x y q =
    let z : epoch_of (up e.0) ≡ epoch_of (up f.0) = cc in
    let n = up_same e.0 f.0 x y (ap (λ k. k.0) z) in
    λ j. record { 0 = n j }

pub probe_epoch : {d₁ d₂ : Driver} → Twin d₁ d₂ → d₁.life.claim_epoch.0 < 0xffff_ffff_ffff_ffff → d₂.life.claim_epoch.0 < 0xffff_ffff_ffff_ffff → d₁.life.claim_epoch ≡ d₂.life.claim_epoch
unfolding moved new_head delivery anchor_of
probe_epoch {d₁} {d₂} w x y =
    let s = current_anchor d₁ in
    let i = installed_anchor d₁ in
    let a = outside s i in
    claimed_same _ _ x y (probe_claim (twin_deliver w false a (outside_fits s i) (outside_first s i) (outside_second s i)) a refl)

-- The previous generation: where the head is unsettled, the installed anchor is delivered first, so that no head hides the previous one.

previous_settled : {d₁ d₂ : Driver} → Twin d₁ d₂ → (Unsettled (pose d₁.life.current) → ⊥) → d₁.life.previous ≡ d₂.life.previous
unfolding step
previous_settled {d₁} {d₂} w n = same_generation Source.Previous (λ n. refl) d₁.life.previous d₂.life.previous (probe_anchors w).2
    (λ g₁ g₂ p q e.
    let v₁ = w.invariant₁.ordered in
    let v₂ = w.invariant₂.ordered in
    sym (snapshot_previous d₁ v₁ g₁ g₁.anchor 0 (previous_elsewhere _ _ v₁.previous_below g₁ g₁.anchor p refl) (settled_not_at d₁.life.current _ n) p refl)
    ∙ twin_answer w (Call.Snapshot g₁.anchor 0) ((rw p at w.invariant₁.fits.life.previous).anchor, zero_fits)
    ∙ snapshot_previous d₂ v₂ g₂ g₁.anchor 0 (previous_elsewhere _ _ v₂.previous_below g₂ g₁.anchor q e) (settled_not_at d₂.life.current _ (rw (probe_pose w) at n)) q e)

-- an unsettled head is not at the installed anchor
current_elsewhere : (d : Driver) → Ordered d.life → Unsettled (pose d.life.current) → (a : ReadAnchor) → installed_anchor d ≡ Some a → holds (current_anchor d) a ≡ false
current_elsewhere d v u a e = false_from_ne_true _ (λ t. true_false (same_holds _ _ e) (not_installed d.life v _ refl u a (holds_same _ _ t)))

previous_unsettled : {d₁ d₂ : Driver} → Twin d₁ d₂ → Unsettled (pose d₁.life.current) → (s : Option ReadAnchor) → installed_anchor d₁ ≡ s → d₁.life.previous ≡ d₂.life.previous
unfolding moved new_head
previous_unsettled {d₁} {d₂} w u None e = previous_empty _ _ w.invariant₁.ordered.previous_below e ∙ sym (previous_empty _ _ w.invariant₂.ordered.previous_below (sym (probe_anchors w).1 ∙ e))
previous_unsettled {d₁} {d₂} w u (Some a) e =
    previous_settled (twin_deliver w true a (generation_fits d₁.life.installed a w.invariant₁.fits.life.installed e) (current_elsewhere d₁ w.invariant₁.ordered u a e) (same_holds _ _ e)) (λ b. b)

pub probe_previous : {d₁ d₂ : Driver} → Twin d₁ d₂ → d₁.life.previous ≡ d₂.life.previous
probe_previous {d₁} {d₂} w = by_pose (pose d₁.life.current) (λ u. previous_unsettled w u (installed_anchor d₁) refl) (λ n. previous_settled w n)

-- The superseded anchor, at every anchor that can tell: under a settled head by a snapshot; an unsettled one is settled cold first, which keeps it.

-- what a settled head does not hide is neither installed nor previous
settled_telling : (d : Driver) → Ordered d.life → (c : CurrentHead) → d.life.current ≡ c → pose c ≡ Pose.Settled → (x : ReadAnchor) → Telling c d.life.previous x → (holds (installed_anchor d) x ≡ false) × (holds (previous_anchor d) x ≡ false)
unfolding delivery anchor_of holds
settled_telling d v CurrentHead.Absent q k x t = cc
settled_telling d v (CurrentHead.Unclaimed u) q k x t = cc
settled_telling d v (CurrentHead.Preparing u) q k x t = cc
settled_telling d v (CurrentHead.Settled s) q k x t = (rw (rw q at v.settled_installed) t.0, t.1)

reason_same : (b c : Bool) → HeadReadiness.Cold (cond b HeadCold.Superseded HeadCold.Undelivered) ≡ HeadReadiness.Cold (cond c HeadCold.Superseded HeadCold.Undelivered) → b ≡ c
reason_same true true e = refl
reason_same true false e = cc
reason_same false true e = cc
reason_same false false e = refl

spare_superseded : (s t : Option ReadAnchor) (x : ReadAnchor) → Answer.View (spare_view s x 0) ≡ Answer.View (spare_view t x 0) → holds s x ≡ holds t x
unfolding spare_view
spare_superseded s t x q =
    let y : spare_view s x 0 ≡ spare_view t x 0 = cc in
    reason_same (holds s x) (holds t x) (ap (λ v. v.readiness) y)

superseded_one : {d₁ d₂ : Driver} → Twin d₁ d₂ → pose d₁.life.current ≡ Pose.Settled → (x : ReadAnchor) → AnchorFits x → Telling d₁.life.current d₁.life.previous x → holds d₁.life.superseded x ≡ holds d₂.life.superseded x
unfolding step
superseded_one {d₁} {d₂} w k x f t =
    let o = settled_telling d₁ w.invariant₁.ordered d₁.life.current refl k x t in
    let i₂ : holds (installed_anchor d₂) x ≡ false = rw (probe_anchors w).1 at o.0 in
    let p₂ : holds (previous_anchor d₂) x ≡ false = rw (probe_anchors w).2 at o.1 in
    let u₁ = settled_not_at d₁.life.current x (λ u. rw k at u) in
    let u₂ = settled_not_at d₂.life.current x (λ u. rw (sym (probe_pose w) ∙ k) at u) in
    spare_superseded d₁.life.superseded d₂.life.superseded x
    (sym (snapshot_spare d₁ w.invariant₁.ordered x 0 o.0 u₁ o.1) ∙ twin_answer w (Call.Snapshot x 0) (f, zero_fits) ∙ snapshot_spare d₂ w.invariant₂.ordered x 0 i₂ u₂ p₂)

-- an anchor that no slot can hold is in neither
by_range : (s t : Option ReadAnchor) (x : ReadAnchor) → SlotFits s → SlotFits t → (AnchorFits x → holds s x ≡ holds t x) → holds s x ≡ holds t x
by_range s t x f g e = by_test (holds s x)
    (λ p. e (rw (holds_same s x p) at f))
    (λ p. by_test (holds t x) (λ q. e (rw (holds_same t x q) at g)) (λ q. p ∙ sym q))

superseded_settled : {d₁ d₂ : Driver} → Twin d₁ d₂ → pose d₁.life.current ≡ Pose.Settled → SameSuperseded d₁.life.current d₁.life.previous d₁.life.superseded d₂.life.superseded
superseded_settled {d₁} {d₂} w k x t = by_range _ _ x w.invariant₁.fits.life.superseded w.invariant₂.fits.life.superseded (λ f. superseded_one w k x f t)

-- twins after a cold apply
pub twin_cold : {d₁ d₂ : Driver} → Twin d₁ d₂ → (a : ReadAnchor) → AnchorFits a → Twin (step d₁ (cold_call a d₁.life.seq)).driver (step d₂ (cold_call a d₁.life.seq)).driver
twin_cold {d₁} w a f = twin_step w (cold_call a d₁.life.seq) (cold_writable a d₁.life.seq f w.invariant₁.fits.life.seq)

pub twin_colded : {d₁ d₂ : Driver} → Twin d₁ d₂ → Unsettled (pose d₁.life.current) → (a : ReadAnchor) → current_anchor d₁ ≡ Some a → Colded d₂ a (step d₂ (cold_call a d₁.life.seq)).driver
twin_colded {d₁} {d₂} w u a e = rw (probe_seq w) (cold_step d₂ w.invariant₂.ordered (twin_unsettled w u) a (twin_anchor w a e))

-- with nothing previous, an anchor that is not current tells
telling_alone : (c : CurrentHead) (p : Option Generation) (x : ReadAnchor) → p ≡ None → holds (anchor_of (delivery c)) x ≡ false → Telling c p x
unfolding slot_anchor holds
telling_alone CurrentHead.Absent p x q e = (e, tt)
telling_alone (CurrentHead.Unclaimed u) p x q e = (e, tt)
telling_alone (CurrentHead.Preparing u) p x q e = (e, tt)
telling_alone (CurrentHead.Settled s) p x q e = (e, rw q refl)

superseded_unsettled : {d₁ d₂ : Driver} → Twin d₁ d₂ → Unsettled (pose d₁.life.current) → (a : ReadAnchor) → current_anchor d₁ ≡ Some a → SameSuperseded d₁.life.current d₁.life.previous d₁.life.superseded d₂.life.superseded
superseded_unsettled {d₁} {d₂} w u a e x t =
    let c₁ = cold_step d₁ w.invariant₁.ordered u a e in
    let c₂ = twin_colded w u a e in
    let o = telling_alone (step d₁ (cold_call a d₁.life.seq)).driver.life.current _ x c₁.empties (ap (λ s. holds s x) (c₁.anchors ∙ sym e) ∙ t.0) in
    ap (λ s. holds s x) (sym c₁.keeps) ∙ superseded_settled (twin_cold w a (anchor_fits w a e)) c₁.settles x o ∙ ap (λ s. holds s x) c₂.keeps

absent_nothing : (d : Driver) → Ordered d.life → current_anchor d ≡ None → d.life.superseded ≡ None
absent_nothing d v e = (rw (absent_of d.life.current e) at v.absent_rest).0

superseded_at : {d₁ d₂ : Driver} → Twin d₁ d₂ → (s : Option ReadAnchor) → current_anchor d₁ ≡ s → SameSuperseded d₁.life.current d₁.life.previous d₁.life.superseded d₂.life.superseded
superseded_at {d₁} {d₂} w None e x t = ap (λ s. holds s x) (absent_nothing d₁ w.invariant₁.ordered e ∙ sym (absent_nothing d₂ w.invariant₂.ordered (sym (probe_anchors w).0 ∙ e)))
superseded_at {d₁} {d₂} w (Some a) e x t = by_pose (pose d₁.life.current)
    (λ u. superseded_unsettled w u a e x t)
    (λ n. superseded_settled w (settled_pose d₁.life.current a n e) x t)

pub probe_superseded : {d₁ d₂ : Driver} → Twin d₁ d₂ → SameSuperseded d₁.life.current d₁.life.previous d₁.life.superseded d₂.life.superseded
probe_superseded {d₁} w = superseded_at w (current_anchor d₁) refl
