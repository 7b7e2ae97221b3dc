-- What one call answers of a driver: one-sided, each a function of the part that it asks for.
use Rattle.std.proofs.lemmas.Option.{same_Some}
use Rattle.std.specs.Prelude.{Option, None, Some, cond}
use Prim.Native.Nat.{ℕ}
use mathlib.Core.Bool.{true, false}
use mathlib.Core.Path.{◌≡◌, refl, ap, ◌∙◌}
use Rattle.hash.specs.Hashes.{same_hash}
use Rattle.head_values.specs.Anchors.{holds}
use Rattle.head_count.specs.Counters.{next_seq, same_seq}
use Rattle.head_current.specs.Heads.{anchor_of, delivery, has_ticket, published, is_settled, is_preparing}
use Rattle.head_life.specs.Completion.{completion_at}
use Rattle.head_life.specs.Deliver.{repeats, deliver_life, old_seq}
use Rattle.head_calls.specs.Claim.{claim, claim_answer}
use Rattle.head_calls.specs.Deliver.{deliver}
use Rattle.head_waits.specs.Snapshot.{snapshot, viewed}
use Rattle.head_ready.specs.Generations.{slot_anchor, view_of}
use Rattle.head_asks.specs.Asks.{completion}
use Rattle.head_life.specs.Views.{current_view, generation_view, provisional_view, spare_view, view}
use Rattle.hash.specs.declared.Hash.{Hash}
use Rattle.head_values.specs.declared.ReadAnchor.{ReadAnchor}
use Rattle.head_count.specs.declared.Seq.{Seq}
use Rattle.head_current.specs.declared.CurrentHead.{CurrentHead}
use Rattle.head_current.specs.declared.HeadDelivery.{HeadDelivery}
use Rattle.head_driver.specs.declared.Answer.{Answer}
use Rattle.head_driver.specs.declared.Driver.{Driver}
use Rattle.head_ready.specs.declared.Generation.{Generation}
use Rattle.head_ready.specs.declared.HeadCold.{HeadCold}
use Rattle.head_life.specs.declared.HeadLifecycle.{HeadLifecycle}
use Rattle.head_ready.specs.declared.HeadReadiness.{HeadReadiness}
use Rattle.head_ready.specs.declared.HeadView.{HeadView}
use Rattle.head_ready.specs.declared.Source.{Source}
use Rattle.alike.proofs.Alike.{unsettled_at}
use Rattle.alike.proofs.Poses.{Unsettled, claim_tells, current_anchor, installed_anchor, not_installed, pose, previous_anchor, provisional_of}
use Rattle.alike.proofs.Tests.{anchor_same, by_test, eqb_same, nothing_at, same_holds}
use Rattle.alike.specs.Invariant.{Ordered}
use Rattle.head_life.specs.Claim.{claim_life, claim_held}
use Rattle.head_driver.specs.Parts.{with_life}

pub ticket_ok : (held : HeadDelivery) (a : ReadAnchor) (n : Seq) → held.anchor ≡ a → held.seq ≡ n → has_ticket held (record { anchor = a; seq = n }) ≡ true
unfolding has_ticket same_seq
ticket_ok held a n p q = rw (p, q, anchor_same a a refl, eqb_same) refl

-- the four views

view_here : (k : Seq → Source) (g : Generation) (a : ReadAnchor) (o : HeadView)
    → g.anchor ≡ a → generation_view k (Some g) a o ≡ view_of (k g.seq) g.handle g.readiness
unfolding generation_view
view_here k g a o e = rw (anchor_same _ _ e) refl

view_pass : (k : Seq → Source) (s : Option Generation) (a : ReadAnchor) (o : HeadView)
    → holds (slot_anchor s) a ≡ false → generation_view k s a o ≡ o
unfolding generation_view slot_anchor holds
view_pass k None a o e = refl
view_pass k (Some g) a o e = rw e refl

current_here : (c : CurrentHead) (a : ReadAnchor) (o : HeadView) → Unsettled (pose c) → anchor_of (delivery c) ≡ Some a → current_view c a o ≡ view_of Source.Provisional (provisional_of c) (HeadReadiness.Cold HeadCold.Unprepared)
unfolding current_view provisional_view anchor_of delivery
current_here CurrentHead.Absent a o u e = absurd u
current_here (CurrentHead.Unclaimed x) a o u e = rw (anchor_same _ _ (same_Some _ _ e)) refl
current_here (CurrentHead.Preparing x) a o u e = rw (anchor_same _ _ (same_Some _ _ e)) refl
current_here (CurrentHead.Settled x) a o u e = absurd u

pub current_pass : (c : CurrentHead) (a : ReadAnchor) (o : HeadView) → unsettled_at c a ≡ false → current_view c a o ≡ o
unfolding current_view provisional_view
current_pass CurrentHead.Absent a o e = refl
current_pass (CurrentHead.Unclaimed x) a o e = rw e refl
current_pass (CurrentHead.Preparing x) a o e = rw e refl
current_pass (CurrentHead.Settled x) a o e = refl

module _ (l : HeadLifecycle) (a : ReadAnchor) (spare : ℕ) where
  view_installed : (g : Generation) → l.installed ≡ Some g → g.anchor ≡ a → view l a spare ≡ view_of (Source.Installed g.seq) g.handle g.readiness
  unfolding view
  view_installed g e p = rw e (view_here _ g a _ p)

  pub view_current : Unsettled (pose l.current) → anchor_of (delivery l.current) ≡ Some a → holds (slot_anchor l.installed) a ≡ false → view l a spare ≡ view_of Source.Provisional (provisional_of l.current) (HeadReadiness.Cold HeadCold.Unprepared)
  unfolding view
  view_current u e o = view_pass _ l.installed a _ o ∙ current_here l.current a _ u e

  pub view_previous : (g : Generation) → holds (slot_anchor l.installed) a ≡ false → unsettled_at l.current a ≡ false
      → l.previous ≡ Some g → g.anchor ≡ a → view l a spare ≡ view_of (Source.Previous g.seq) g.handle g.readiness
  unfolding view
  view_previous g x y e p = view_pass _ l.installed a _ x ∙ current_pass l.current a _ y ∙ rw e (view_here _ g a _ p)

  view_spare : holds (slot_anchor l.installed) a ≡ false → unsettled_at l.current a ≡ false → holds (slot_anchor l.previous) a ≡ false → view l a spare ≡ spare_view l.superseded a spare
  unfolding view
  view_spare x y z = view_pass _ l.installed a _ x ∙ current_pass l.current a _ y ∙ view_pass _ l.previous a _ z

module _ (d : Driver) (v : Ordered d.life) where
  -- a claim under the current ticket tells the pose, and of an unclaimed head the epoch
  pub claim_answers : (c : CurrentHead) → d.life.current ≡ c → (a : ReadAnchor) → anchor_of (delivery c) ≡ Some a → (claim d (record { anchor = a; seq = d.life.seq })).answer ≡ claim_tells c d.life.claim_epoch
  unfolding claim claim_life claim_held claim_answer with_life delivery anchor_of is_settled is_preparing
  claim_answers CurrentHead.Absent q a e = nothing_at e
  claim_answers (CurrentHead.Unclaimed u) q a e = rw (q, ticket_ok u.delivery a d.life.seq (same_Some _ _ e) (rw q at v.seq_current), not_installed d.life v _ q tt _ refl) refl
  claim_answers (CurrentHead.Preparing u) q a e = rw (q, ticket_ok u.delivery a d.life.seq (same_Some _ _ e) (rw q at v.seq_current), not_installed d.life v _ q tt _ refl) refl
  claim_answers (CurrentHead.Settled s) q a e = rw (q, ticket_ok s.delivery a d.life.seq (same_Some _ _ e) (rw q at v.seq_current), same_holds _ _ (rw q at v.settled_installed)) refl

  -- a completion at the current anchor tells the end
  pub completion_answers : (a : ReadAnchor) → current_anchor d ≡ Some a → (completion d a).answer ≡ Answer.Completion (published d.life.current)
  unfolding completion completion_at
  completion_answers a e = rw (same_holds _ _ e) refl

  -- a delivery of the current anchor tells whether its parent hash is the current one
  pub deliver_answers : (held : HeadDelivery) → delivery d.life.current ≡ Some held → (a : ReadAnchor) → held.anchor ≡ a → (p : Hash) (cold : ℕ)
      → (deliver d a p cold).answer ≡ Answer.Ticket (cond (same_hash held.parent_hash p) d.life.seq (next_seq d.life.seq))
  unfolding deliver deliver_life repeats old_seq
  deliver_answers held q a e p cold =
      let n : held.seq ≡ d.life.seq = rw q at v.seq_current in
      rw (q, anchor_same held.anchor a e, n) (by_test (same_hash held.parent_hash p) (λ t. rw t refl) (λ f. rw f refl))

  -- a snapshot tells what it finds

  pub snapshot_current : (a : ReadAnchor) (spare : ℕ) → Unsettled (pose d.life.current) → current_anchor d ≡ Some a
      → (snapshot d a spare).answer ≡ Answer.View (view_of Source.Provisional (provisional_of d.life.current) (HeadReadiness.Cold HeadCold.Unprepared))
  unfolding snapshot viewed
  snapshot_current a spare u e = ap Answer.View (view_current d.life a spare u e (not_installed d.life v _ refl u a e))

  pub snapshot_installed : (g : Generation) (a : ReadAnchor) (spare : ℕ) → d.life.installed ≡ Some g → g.anchor ≡ a
      → (snapshot d a spare).answer ≡ Answer.View (view_of (Source.Installed g.seq) g.handle g.readiness)
  unfolding snapshot viewed
  snapshot_installed g a spare e p = ap Answer.View (view_installed d.life a spare g e p)

  pub snapshot_previous : (g : Generation) (a : ReadAnchor) (spare : ℕ) → holds (installed_anchor d) a ≡ false → unsettled_at d.life.current a ≡ false → d.life.previous ≡ Some g → g.anchor ≡ a
      → (snapshot d a spare).answer ≡ Answer.View (view_of (Source.Previous g.seq) g.handle g.readiness)
  unfolding snapshot viewed
  snapshot_previous g a spare x y e p = ap Answer.View (view_previous d.life a spare g x y e p)

  pub snapshot_spare : (a : ReadAnchor) (spare : ℕ) → holds (installed_anchor d) a ≡ false → unsettled_at d.life.current a ≡ false → holds (previous_anchor d) a ≡ false
      → (snapshot d a spare).answer ≡ Answer.View (spare_view d.life.superseded a spare)
  unfolding snapshot viewed
  snapshot_spare a spare x y z = ap Answer.View (view_spare d.life a spare x y z)
