-- The parts of a driver that the probes ask for, each read off every head.
use Rattle.std.proofs.lemmas.Option.{same_Some}
use Rattle.std.proofs.lemmas.Bool.{false_from_ne_true}
use Rattle.std.specs.Prelude.{Option, None, Some}
use Rattle.head_current.specs.declared.DeltaReport.{DeltaReport}
use Prim.Native.Nat.{ℕ}
use mathlib.Core.Bool.{false}
use mathlib.Core.Path.{◌≡◌, refl, sym, ap, ◌∙◌, subst}
use native.Mathlib.Omega.{arith}
use Rattle.head_values.specs.Anchors.{holds}
use Rattle.head_attempt.specs.Attempts.{minted}
use Rattle.head_count.specs.Counters.{epoch_of, next_epoch, seq_of}
use Rattle.head_current.specs.Heads.{anchor_of, delivery, current_report, published}
use Rattle.head_current.specs.Parts.{delivery_of}
use Rattle.head_ready.specs.Generations.{slot_anchor}
use Rattle.head_ready.specs.Refusals.{refused_13, refused_14}
use Rattle.hash.specs.declared.Hash.{Hash}
use Rattle.head_values.specs.declared.ReadAnchor.{ReadAnchor}
use Rattle.head_attempt.specs.declared.ClaimAttempt.{ClaimAttempt}
use Rattle.head_count.specs.declared.Epoch.{Epoch}
use Rattle.head_current.specs.declared.CurrentHead.{CurrentHead}
use Rattle.head_current.specs.declared.HeadDelivery.{HeadDelivery}
use Rattle.head_current.specs.declared.UnsettledHead.{UnsettledHead}
use Rattle.head_driver.specs.declared.Answer.{Answer}
use Rattle.head_driver.specs.declared.Driver.{Driver}
use Rattle.head_ready.specs.declared.Generation.{Generation}
use Rattle.head_life.specs.declared.HeadLifecycle.{HeadLifecycle}
use Rattle.alike.proofs.Alike.{SameHead, unsettled_at}
use Rattle.alike.proofs.KeptRanges.{held_fits}
use Rattle.alike.proofs.Tests.{nothing_at, same_anchor_lem}
use Rattle.alike.specs.Invariant.{Follows, Ordered}
use Rattle.head_values.specs.Ranges.{AnchorFits}
use Rattle.head_ready.specs.Ranges.{GenerationSlotFits}
use Rattle.head_current.specs.Ranges.{HeadFits}

abbrev pub current_anchor : Driver → Option ReadAnchor
current_anchor d = anchor_of (delivery d.life.current)

abbrev pub installed_anchor : Driver → Option ReadAnchor
installed_anchor d = slot_anchor d.life.installed

abbrev pub previous_anchor : Driver → Option ReadAnchor
previous_anchor d = slot_anchor d.life.previous

-- what the current head is
pub data Pose : Type 0 where
  Absent Unclaimed Preparing Settled : Pose

abbrev pub pose : CurrentHead → Pose
pose CurrentHead.Absent = Pose.Absent
pose (CurrentHead.Unclaimed u) = Pose.Unclaimed
pose (CurrentHead.Preparing u) = Pose.Preparing
pose (CurrentHead.Settled s) = Pose.Settled

abbrev pub Unsettled : Pose → Type 0
Unsettled Pose.Absent = ⊥
Unsettled Pose.Unclaimed = Unit {0}
Unsettled Pose.Preparing = Unit {0}
Unsettled Pose.Settled = ⊥

pub by_pose : {X : Type 0} (k : Pose) → (Unsettled k → X) → ((Unsettled k → ⊥) → X) → X
by_pose Pose.Absent f g = g (λ b. b)
by_pose Pose.Unclaimed f g = f tt
by_pose Pose.Preparing f g = f tt
by_pose Pose.Settled f g = g (λ b. b)

abbrev pub parent_of : Option HeadDelivery → Hash
parent_of None = record { w0 = 0; w1 = 0; w2 = 0; w3 = 0 }
parent_of (Some held) = held.parent_hash

abbrev pub provisional_of : CurrentHead → ℕ
provisional_of CurrentHead.Absent = 0
provisional_of (CurrentHead.Unclaimed u) = u.provisional
provisional_of (CurrentHead.Preparing u) = u.provisional
provisional_of (CurrentHead.Settled s) = 0

-- what a claim under the current ticket answers
abbrev pub claim_tells : CurrentHead → Epoch → Answer
claim_tells CurrentHead.Absent e = Answer.Done
claim_tells (CurrentHead.Unclaimed u) e = Answer.Claimed (next_epoch e)
claim_tells (CurrentHead.Preparing u) e = Answer.Outcome refused_14
claim_tells (CurrentHead.Settled s) e = Answer.Outcome refused_13

-- A head is made of these parts, and of its delivery and attempt.

abbrev pub held_of : Option HeadDelivery → HeadDelivery
held_of None = delivery_of (record { number = 0; hash = None }) (record { w0 = 0; w1 = 0; w2 = 0; w3 = 0 }) (seq_of 0)
held_of (Some held) = held

abbrev pub attempt_of : CurrentHead → ClaimAttempt
attempt_of CurrentHead.Absent = minted (epoch_of 0)
attempt_of (CurrentHead.Unclaimed u) = u.attempt
attempt_of (CurrentHead.Preparing u) = u.attempt
attempt_of (CurrentHead.Settled s) = s.attempt

abbrev rebuild : Pose → HeadDelivery → ℕ → ClaimAttempt → Option DeltaReport → CurrentHead
rebuild Pose.Absent held h t r = CurrentHead.Absent
rebuild Pose.Unclaimed held h t r = CurrentHead.Unclaimed (record { delivery = held; provisional = h; attempt = t })
rebuild Pose.Preparing held h t r = CurrentHead.Preparing (record { delivery = held; provisional = h; attempt = t })
rebuild Pose.Settled held h t r = CurrentHead.Settled (record { delivery = held; report = r; attempt = t })

rebuilt : (c : CurrentHead) → rebuild (pose c) (held_of (delivery c)) (provisional_of c) (attempt_of c) (current_report c) ≡ c
unfolding delivery current_report
rebuilt CurrentHead.Absent = refl
rebuilt (CurrentHead.Unclaimed u) = refl
rebuilt (CurrentHead.Preparing u) = refl
rebuilt (CurrentHead.Settled s) = refl

same_rebuilt : (k : Pose) (held : HeadDelivery) (h : ℕ) (t z : ClaimAttempt) (r : Option DeltaReport) → t.end ≡ z.end → (k ≡ Pose.Preparing → t ≡ z) → SameHead (rebuild k held h t r) (rebuild k held h z r)
same_rebuilt Pose.Absent held h t z r q e = SameHead.both_absent
same_rebuilt Pose.Unclaimed held h t z r q e = rw q (SameHead.both_unclaimed held h t.epoch z.epoch z.end)
same_rebuilt Pose.Preparing held h t z r q e = rw (e refl) (SameHead.both_preparing _)
same_rebuilt Pose.Settled held h t z r q e = rw q (SameHead.both_settled held r t.epoch z.epoch z.end)

-- heads that agree in these parts, a preparing one in its whole attempt, differ in nothing that can be told
pub same_parts : (c₁ c₂ : CurrentHead) → pose c₁ ≡ pose c₂ → held_of (delivery c₁) ≡ held_of (delivery c₂) → provisional_of c₁ ≡ provisional_of c₂ → current_report c₁ ≡ current_report c₂
    → (attempt_of c₁).end ≡ (attempt_of c₂).end → (pose c₁ ≡ Pose.Preparing → attempt_of c₁ ≡ attempt_of c₂) → SameHead c₁ c₂
same_parts c₁ c₂ k held h r q e =
    let z = same_rebuilt (pose c₁) (held_of (delivery c₁)) (provisional_of c₁) (attempt_of c₁) (attempt_of c₂) (current_report c₁) q e in
    let x = rebuilt c₁ in
    let y = rebuilt c₂ in
    subst (SameHead c₁) y (subst (λ c. SameHead c (rebuild (pose c₂) (held_of (delivery c₂)) (provisional_of c₂) (attempt_of c₂) (current_report c₂))) x
    (subst (SameHead (rebuild (pose c₁) (held_of (delivery c₁)) (provisional_of c₁) (attempt_of c₁) (current_report c₁))) (λ j. rebuild (k j) (held j) (h j) (attempt_of c₂) (r j)) z))

pub published_end : (c : CurrentHead) → (attempt_of c).end ≡ published c
unfolding published minted
published_end CurrentHead.Absent = refl
published_end (CurrentHead.Unclaimed u) = refl
published_end (CurrentHead.Preparing u) = refl
published_end (CurrentHead.Settled s) = refl

-- Facts of the parts.

pub held_at : (s : Option HeadDelivery) (a : ReadAnchor) → anchor_of s ≡ Some a → (held : HeadDelivery) × (s ≡ Some held) × (held.anchor ≡ a)
unfolding anchor_of
held_at None a e = nothing_at e
held_at (Some held) a e = (held, refl, same_Some _ _ e)

pub absent_of : (c : CurrentHead) → anchor_of (delivery c) ≡ None → c ≡ CurrentHead.Absent
unfolding anchor_of delivery
absent_of CurrentHead.Absent e = refl
absent_of (CurrentHead.Unclaimed u) e = nothing_at (sym e)
absent_of (CurrentHead.Preparing u) e = nothing_at (sym e)
absent_of (CurrentHead.Settled s) e = nothing_at (sym e)

pub preparing_of : (c : CurrentHead) → pose c ≡ Pose.Preparing → (u : UnsettledHead) × (c ≡ CurrentHead.Preparing u)
preparing_of CurrentHead.Absent e = cc
preparing_of (CurrentHead.Unclaimed u) e = cc
preparing_of (CurrentHead.Preparing u) e = (u, refl)
preparing_of (CurrentHead.Settled s) e = cc

pub no_provisional : (c : CurrentHead) → (Unsettled (pose c) → ⊥) → provisional_of c ≡ 0
no_provisional CurrentHead.Absent n = refl
no_provisional (CurrentHead.Unclaimed u) n = absurd (n tt)
no_provisional (CurrentHead.Preparing u) n = absurd (n tt)
no_provisional (CurrentHead.Settled s) n = refl

pub settled_not_at : (c : CurrentHead) (a : ReadAnchor) → (Unsettled (pose c) → ⊥) → unsettled_at c a ≡ false
settled_not_at CurrentHead.Absent a n = refl
settled_not_at (CurrentHead.Unclaimed u) a n = absurd (n tt)
settled_not_at (CurrentHead.Preparing u) a n = absurd (n tt)
settled_not_at (CurrentHead.Settled s) a n = refl

pub settled_pose : (c : CurrentHead) (a : ReadAnchor) → (Unsettled (pose c) → ⊥) → anchor_of (delivery c) ≡ Some a → pose c ≡ Pose.Settled
unfolding anchor_of delivery
settled_pose CurrentHead.Absent a n e = nothing_at e
settled_pose (CurrentHead.Unclaimed u) a n e = absurd (n tt)
settled_pose (CurrentHead.Preparing u) a n e = absurd (n tt)
settled_pose (CurrentHead.Settled s) a n e = refl

pub head_fits : (c : CurrentHead) (a : ReadAnchor) → HeadFits c → anchor_of (delivery c) ≡ Some a → AnchorFits a
head_fits c a f e = let h = held_at (delivery c) a e in rw h.2 at (held_fits c h.0 h.1 f).anchor

pub generation_fits : (g : Option Generation) (a : ReadAnchor) → GenerationSlotFits g → slot_anchor g ≡ Some a → AnchorFits a
unfolding slot_anchor
generation_fits None a f e = nothing_at e
generation_fits (Some g) a f e = rw (same_Some _ _ e) at f.anchor

-- the previous generation is not at the installed anchor
pub previous_elsewhere : (i p : Option Generation) → Follows i p → (g : Generation) (a : ReadAnchor) → p ≡ Some g → g.anchor ≡ a → holds (slot_anchor i) a ≡ false
unfolding slot_anchor holds
previous_elsewhere None p x g a e q = refl
previous_elsewhere (Some i) p x g a e q = false_from_ne_true _ (λ t.
    let z = rw e at x in
    omega (arith, z, ap (λ b. b.number) (same_anchor_lem _ _ t), ap (λ b. b.number) q))

pub previous_empty : (i p : Option Generation) → Follows i p → slot_anchor i ≡ None → p ≡ None
unfolding slot_anchor
previous_empty i None x e = refl
previous_empty None (Some g) x e = absurd x
previous_empty (Some i) (Some g) x e = nothing_at (sym e)

-- Where the heads of a driver that keeps the rules stand.
module _ (l : HeadLifecycle) (v : Ordered l) where
  -- an unsettled head is not installed
  pub not_installed : (c : CurrentHead) → l.current ≡ c → Unsettled (pose c) → (a : ReadAnchor) → anchor_of (delivery c) ≡ Some a → holds (slot_anchor l.installed) a ≡ false
  unfolding anchor_of delivery
  not_installed CurrentHead.Absent q u a e = absurd u
  not_installed (CurrentHead.Unclaimed x) q u a e = rw (same_Some _ _ e) at (rw q at v.unsettled_elsewhere)
  not_installed (CurrentHead.Preparing x) q u a e = rw (same_Some _ _ e) at (rw q at v.unsettled_elsewhere)
  not_installed (CurrentHead.Settled x) q u a e = absurd u

  -- a head that is settled, or none, is the installed one
  pub settled_anchor : (c : CurrentHead) → l.current ≡ c → (Unsettled (pose c) → ⊥) → anchor_of (delivery c) ≡ slot_anchor l.installed
  unfolding anchor_of delivery slot_anchor
  settled_anchor CurrentHead.Absent q n = rw (rw q at v.absent_rest).1 refl
  settled_anchor (CurrentHead.Unclaimed u) q n = absurd (n tt)
  settled_anchor (CurrentHead.Preparing u) q n = absurd (n tt)
  settled_anchor (CurrentHead.Settled s) q n = sym (rw q at v.settled_installed)

  -- a preparing head's attempt is the open one at the epoch counter
  pub preparing_minted : (c : CurrentHead) → l.current ≡ c → pose c ≡ Pose.Preparing → attempt_of c ≡ minted l.claim_epoch
  preparing_minted c q k =
      let u = preparing_of c k in
      let t : u.0.attempt ≡ minted l.claim_epoch = rw (q ∙ u.1) at v.preparing_attempt in
      ap attempt_of u.1 ∙ t
