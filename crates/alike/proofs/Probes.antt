-- Probes of one call: twins agree in the part that the call's answer tells.
use Rattle.std.proofs.lemmas.Option.{same_Some}
use Rattle.std.specs.Prelude.{Option, None, Some, cond}
use Prim.Native.Nat.{◌<◌}
use mathlib.Core.Path.{◌≡◌, refl, sym, ap, ◌∙◌}
use lib.Dec.{lit<}
use Rattle.hash.specs.Hashes.{same_hash}
use Rattle.head_attempt.specs.Attempts.{minted}
use Rattle.head_count.specs.Counters.{next_seq, seq_of, up}
use Rattle.head_current.specs.Heads.{delivery, current_report, published}
use Rattle.head_ready.specs.Generations.{slot_anchor, view_of}
use Rattle.head_asks.specs.Asks.{last_report, stats, heads}
use Rattle.head_step.specs.Steps.{step}
use Rattle.hash.specs.declared.Hash.{Hash}
use Rattle.head_values.specs.declared.ReadAnchor.{ReadAnchor}
use Rattle.head_count.specs.declared.Epoch.{Epoch}
use Rattle.head_count.specs.declared.Seq.{Seq}
use Rattle.head_current.specs.declared.CurrentHead.{CurrentHead}
use Rattle.head_driver.specs.declared.Answer.{Answer}
use Rattle.head_driver.specs.declared.Driver.{Driver}
use Rattle.head_ready.specs.declared.Generation.{Generation}
use Rattle.head_ready.specs.declared.HeadCold.{HeadCold}
use Rattle.head_ready.specs.declared.HeadReadiness.{HeadReadiness}
use Rattle.head_ready.specs.declared.HeadView.{HeadView}
use Rattle.head_ready.specs.declared.Source.{Source}
use Rattle.head_call.specs.declared.Call.{Call}
use Rattle.alike.proofs.Alike.{SameHead}
use Rattle.alike.proofs.KeptRanges.{held_fits}
use Rattle.alike.proofs.Poses.{Unsettled, absent_of, by_pose, claim_tells, current_anchor, head_fits, held_at, held_of, installed_anchor, no_provisional, parent_of, pose, preparing_minted, previous_anchor, provisional_of, published_end, same_parts}
use Rattle.alike.proofs.Replies.{claim_answers, completion_answers, deliver_answers, snapshot_current, snapshot_installed}
use Rattle.alike.proofs.Tests.{by_test, hash_same, nothing_at, same_hash_lem, up_other}
use Rattle.alike.proofs.Twins.{Twin, twin_answer}
use Rattle.alike.specs.Invariant.{Ordered}
use Rattle.head_values.specs.Ranges.{AnchorFits}
use Rattle.hash.specs.Ranges.{Fits}

pub zero_fits : Fits 0
zero_fits = lit< tt

claim_pose : (c₁ c₂ : CurrentHead) (e₁ e₂ : Epoch) → claim_tells c₁ e₁ ≡ claim_tells c₂ e₂ → pose c₁ ≡ pose c₂
claim_pose CurrentHead.Absent CurrentHead.Absent e₁ e₂ q = refl
claim_pose CurrentHead.Absent (CurrentHead.Unclaimed y) e₁ e₂ q = cc
claim_pose CurrentHead.Absent (CurrentHead.Preparing y) e₁ e₂ q = cc
claim_pose CurrentHead.Absent (CurrentHead.Settled y) e₁ e₂ q = cc
claim_pose (CurrentHead.Unclaimed x) CurrentHead.Absent e₁ e₂ q = cc
claim_pose (CurrentHead.Unclaimed x) (CurrentHead.Unclaimed y) e₁ e₂ q = refl
claim_pose (CurrentHead.Unclaimed x) (CurrentHead.Preparing y) e₁ e₂ q = cc
claim_pose (CurrentHead.Unclaimed x) (CurrentHead.Settled y) e₁ e₂ q = cc
claim_pose (CurrentHead.Preparing x) CurrentHead.Absent e₁ e₂ q = cc
claim_pose (CurrentHead.Preparing x) (CurrentHead.Unclaimed y) e₁ e₂ q = cc
claim_pose (CurrentHead.Preparing x) (CurrentHead.Preparing y) e₁ e₂ q = refl
claim_pose (CurrentHead.Preparing x) (CurrentHead.Settled y) e₁ e₂ q = cc
claim_pose (CurrentHead.Settled x) CurrentHead.Absent e₁ e₂ q = cc
claim_pose (CurrentHead.Settled x) (CurrentHead.Unclaimed y) e₁ e₂ q = cc
claim_pose (CurrentHead.Settled x) (CurrentHead.Preparing y) e₁ e₂ q = cc
claim_pose (CurrentHead.Settled x) (CurrentHead.Settled y) e₁ e₂ q = refl

-- the number that a generation's source has
abbrev pub told_number : Source → Seq
told_number (Source.Installed n) = n
told_number Source.Provisional = seq_of 0
told_number (Source.Previous n) = n
told_number Source.Spare = seq_of 0

-- two slots with one anchor, that show the same at it
pub same_generation : (s : Seq → Source) → ((n : Seq) → told_number (s n) ≡ n)
    → (i₁ i₂ : Option Generation) → slot_anchor i₁ ≡ slot_anchor i₂
    → ((g₁ g₂ : Generation) → i₁ ≡ Some g₁ → i₂ ≡ Some g₂ → g₂.anchor ≡ g₁.anchor
    → Answer.View (view_of (s g₁.seq) g₁.handle g₁.readiness) ≡ Answer.View (view_of (s g₂.seq) g₂.handle g₂.readiness))
    → i₁ ≡ i₂
unfolding slot_anchor
same_generation s b None None e f = refl
same_generation s b None (Some g₂) e f = nothing_at e
same_generation s b (Some g₁) None e f = nothing_at (sym e)
same_generation s b (Some g₁) (Some g₂) e f =
    let q = f g₁ g₂ refl refl (sym (same_Some _ _ e)) in
    let v : view_of (s g₁.seq) g₁.handle g₁.readiness ≡ view_of (s g₂.seq) g₂.handle g₂.readiness = cc in
    let n = sym (b g₁.seq) ∙ ap (λ (x : HeadView). told_number x.source) v ∙ b g₂.seq in
    let a = same_Some _ _ e in
    λ j. Some (record { anchor = a j; handle = (v j).handle; seq = n j; readiness = (v j).readiness })

-- the old ticket is not the next one
same_parent : (p x : Hash) (m n : Seq) → m ≡ n → m.0 < 0xffff_ffff_ffff_ffff → Answer.Ticket (cond (same_hash p p) m (next_seq m)) ≡ Answer.Ticket (cond (same_hash x p) n (next_seq n)) → p ≡ x
unfolding next_seq
same_parent p x m n e b q = by_test (same_hash x p)
    (λ t. sym (same_hash_lem x p t))
    (λ f.
    let z : Answer.Ticket m ≡ Answer.Ticket (seq_of (up m.0)) = rw (hash_same p, f, ← e) at q in
    let y : m ≡ seq_of (up m.0) = cc in
    absurd (up_other m.0 b (ap (λ s. s.0) y)))

module _ {d₁ d₂ : Driver} (w : Twin d₁ d₂) where
  abbrev c₁ : CurrentHead
  c₁ = d₁.life.current

  abbrev c₂ : CurrentHead
  c₂ = d₂.life.current

  abbrev v₁ : Ordered d₁.life
  v₁ = w.invariant₁.ordered

  abbrev v₂ : Ordered d₂.life
  v₂ = w.invariant₂.ordered

  pub probe_counters : d₁.life.stats ≡ d₂.life.stats
  unfolding step stats
  probe_counters = let e : Answer.Stats d₁.life.stats ≡ Answer.Stats d₂.life.stats = twin_answer w Call.Stats tt in cc

  pub probe_seq : d₁.life.seq ≡ d₂.life.seq
  probe_seq = v₁.seq_delivered ∙ ap (λ t. seq_of t.delivered) probe_counters ∙ sym v₂.seq_delivered

  pub probe_anchors : (current_anchor d₁ ≡ current_anchor d₂) × (installed_anchor d₁ ≡ installed_anchor d₂) × (previous_anchor d₁ ≡ previous_anchor d₂)
  unfolding step heads
  probe_anchors =
      let e : Answer.Heads (current_anchor d₁) (installed_anchor d₁) (previous_anchor d₁) ≡ Answer.Heads (current_anchor d₂) (installed_anchor d₂) (previous_anchor d₂) = twin_answer w Call.Heads tt in
      (cc, cc, cc)

  pub probe_report : current_report c₁ ≡ current_report c₂
  unfolding step last_report
  probe_report = let e : Answer.Report (current_report c₁) ≡ Answer.Report (current_report c₂) = twin_answer w Call.Report tt in cc

  pub probe_installed : d₁.life.installed ≡ d₂.life.installed
  unfolding step
  probe_installed = same_generation Source.Installed (λ n. refl) d₁.life.installed d₂.life.installed probe_anchors.1
      (λ g₁ g₂ p q e. sym (snapshot_installed d₁ v₁ g₁ g₁.anchor 0 p refl)
      ∙ twin_answer w (Call.Snapshot g₁.anchor 0) ((rw p at w.invariant₁.fits.life.installed).anchor, zero_fits)
      ∙ snapshot_installed d₂ v₂ g₂ g₁.anchor 0 q e)

  -- Where there is a head, at its anchor.
  module _ (a : ReadAnchor) (e : current_anchor d₁ ≡ Some a) where
    pub twin_anchor : current_anchor d₂ ≡ Some a
    twin_anchor = sym probe_anchors.0 ∙ e

    pub anchor_fits : AnchorFits a
    anchor_fits = head_fits c₁ a w.invariant₁.fits.life.current e

    pub probe_claim : claim_tells c₁ d₁.life.claim_epoch ≡ claim_tells c₂ d₂.life.claim_epoch
    unfolding step
    probe_claim = sym (claim_answers d₁ v₁ _ refl a e)
        ∙ twin_answer w (Call.Claim (record { anchor = a; seq = d₁.life.seq })) (anchor_fits, w.invariant₁.fits.life.seq)
        ∙ rw probe_seq (claim_answers d₂ v₂ _ refl a twin_anchor)

  -- a part of the head: with no head there is but one
  part_at : {A : Type 0} (f : CurrentHead → A) → ((a : ReadAnchor) → current_anchor d₁ ≡ Some a → f c₁ ≡ f c₂) → (s : Option ReadAnchor) → current_anchor d₁ ≡ s → f c₁ ≡ f c₂
  part_at f g None e = ap f (absent_of c₁ e ∙ sym (absent_of c₂ (sym probe_anchors.0 ∙ e)))
  part_at f g (Some a) e = g a e

  part : {A : Type 0} (f : CurrentHead → A) → ((a : ReadAnchor) → current_anchor d₁ ≡ Some a → f c₁ ≡ f c₂) → f c₁ ≡ f c₂
  part f g = part_at f g (current_anchor d₁) refl

  pub probe_pose : pose c₁ ≡ pose c₂
  probe_pose = part pose (λ a e. claim_pose c₁ c₂ d₁.life.claim_epoch d₂.life.claim_epoch (probe_claim a e))

  pub twin_unsettled : Unsettled (pose c₁) → Unsettled (pose c₂)
  twin_unsettled u = rw probe_pose at u

  pub probe_end : published c₁ ≡ published c₂
  unfolding step
  probe_end = part published (λ a e.
      let q = sym (completion_answers d₁ v₁ a e) ∙ twin_answer w (Call.Completion a) (anchor_fits a e) ∙ completion_answers d₂ v₂ a (twin_anchor a e) in cc)

  pub probe_provisional : provisional_of c₁ ≡ provisional_of c₂
  unfolding step
  probe_provisional = part provisional_of (λ a e. by_pose (pose c₁)
      (λ u.
      let q = sym (snapshot_current d₁ v₁ a 0 u e) ∙ twin_answer w (Call.Snapshot a 0) (anchor_fits a e, zero_fits) ∙ snapshot_current d₂ v₂ a 0 (twin_unsettled u) (twin_anchor a e) in
      let z : view_of Source.Provisional (provisional_of c₁) (HeadReadiness.Cold HeadCold.Unprepared) ≡ view_of Source.Provisional (provisional_of c₂) (HeadReadiness.Cold HeadCold.Unprepared) = cc in
      ap (λ v. v.handle) z)
      (λ n. no_provisional c₁ n ∙ sym (no_provisional c₂ (rw probe_pose at n))))

  pub probe_parent_hash : d₁.life.stats.delivered < 0xffff_ffff_ffff_ffff → parent_of (delivery c₁) ≡ parent_of (delivery c₂)
  unfolding step next_seq
  probe_parent_hash b = part (λ c. parent_of (delivery c)) (λ a e.
      let h₁ = held_at (delivery c₁) a e in
      let h₂ = held_at (delivery c₂) a (twin_anchor a e) in
      let p = h₁.0.parent_hash in
      let f = held_fits _ h₁.0 h₁.1 w.invariant₁.fits.life.current in
      let q = sym (deliver_answers d₁ v₁ h₁.0 h₁.1 a h₁.2 p 0) ∙ twin_answer w (Call.Deliver a p 0) (anchor_fits a e, f.parent_hash, zero_fits) ∙ deliver_answers d₂ v₂ h₂.0 h₂.1 a h₂.2 p 0 in
      rw (h₁.1, h₂.1) (same_parent p h₂.0.parent_hash d₁.life.seq d₂.life.seq probe_seq (rw v₁.seq_delivered b) q))

  probe_delivery : d₁.life.stats.delivered < 0xffff_ffff_ffff_ffff → held_of (delivery c₁) ≡ held_of (delivery c₂)
  probe_delivery b = part (λ c. held_of (delivery c)) (λ a e.
      let h₁ = held_at (delivery c₁) a e in
      let h₂ = held_at (delivery c₂) a (twin_anchor a e) in
      let p : h₁.0.parent_hash ≡ h₂.0.parent_hash = rw (h₁.1, h₂.1) at (probe_parent_hash b) in
      let n : h₁.0.seq ≡ h₂.0.seq = (rw h₁.1 at v₁.seq_current) ∙ probe_seq ∙ sym (rw h₂.1 at v₂.seq_current) in
      let x = h₁.2 ∙ sym h₂.2 in
      rw (h₁.1, h₂.1) (λ j. record { anchor = x j; parent_hash = p j; seq = n j }))

  -- the head, but for the epoch of an attempt that is not being prepared
  pub probe_head : d₁.life.stats.delivered < 0xffff_ffff_ffff_ffff → d₁.life.claim_epoch ≡ d₂.life.claim_epoch → SameHead c₁ c₂
  probe_head b q = same_parts c₁ c₂ probe_pose (probe_delivery b) probe_provisional probe_report
      (published_end c₁ ∙ probe_end ∙ sym (published_end c₂))
      (λ k. preparing_minted d₁.life v₁ c₁ refl k ∙ ap minted q ∙ sym (preparing_minted d₂.life v₂ c₂ refl (sym probe_pose ∙ k)))
