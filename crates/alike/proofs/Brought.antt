-- Calls that bring a driver to a known state, where another call then tells what no single call does.
use Rattle.std.proofs.lemmas.Bool.{cond_both, false_from_ne_true}
use Rattle.std.specs.Prelude.{Option, None, Some, cond}
use Rattle.head_ready.specs.declared.Generation.{Generation}
use Prim.Native.Nat.{ℕ}
use mathlib.Core.Bool.{Bool, true, false}
use mathlib.Core.Path.{◌≡◌, refl, sym, ap, ◌∙◌}
use native.Mathlib.Omega.{arith}
use lib.Dec.{eqb, lit<}
use borrow.Author.Tests.{eqb-true, eqb-false}
use Rattle.head_values.specs.Anchors.{holds}
use Rattle.head_values.specs.Lists.{apply_prepared, as_prepared, is_linked, is_no_hash, is_decoded, outcome}
use Rattle.head_calls.specs.Apply.{apply, apply_planned, apply_settled}
use Rattle.head_attempt.specs.Attempts.{minted}
use Rattle.head_count.specs.Counters.{same_epoch, same_seq}
use Rattle.head_current.specs.Heads.{anchor_of, delivery}
use Rattle.head_life.specs.Deliver.{repeats, deliver_life}
use Rattle.head_current.specs.Moves.{settled_head, released_head, owned_by}
use Rattle.head_life.specs.Apply.{record_settle, plan_apply, previous_after, settling_epoch, plan_held}
use Rattle.head_driver.specs.Moved.{moved, woken_waiters}
use Rattle.head_calls.specs.Deliver.{deliver}
use Rattle.head_calls.specs.Release.{release}
use Rattle.head_life.specs.Release.{release_life}
use Rattle.head_ready.specs.Generations.{slot_anchor}
use Rattle.head_step.specs.Steps.{step}
use Rattle.hash.specs.declared.Hash.{Hash}
use Rattle.head_values.specs.declared.BalSkip.{BalSkip}
use Rattle.head_values.specs.declared.CarryOutcome.{CarryOutcome}
use Rattle.head_values.specs.declared.Link.{Link}
use Rattle.head_values.specs.declared.PreparedBal.{PreparedBal}
use Rattle.head_values.specs.declared.ReadAnchor.{ReadAnchor}
use Rattle.head_count.specs.declared.Epoch.{Epoch}
use Rattle.head_attempt.specs.declared.HeadCompletion.{HeadCompletion}
use Rattle.head_count.specs.declared.Seq.{Seq}
use Rattle.head_current.specs.declared.CurrentHead.{CurrentHead}
use Rattle.head_current.specs.declared.HeadDelivery.{HeadDelivery}
use Rattle.head_current.specs.declared.UnsettledHead.{UnsettledHead}
use Rattle.head_driver.specs.declared.Driver.{Driver}
use Rattle.head_call.specs.declared.Call.{Call}
use Rattle.alike.proofs.KeptOrder.{Settles, head_settles}
use Rattle.alike.proofs.Poses.{Pose, Unsettled, current_anchor, held_at, installed_anchor, not_installed, pose}
use Rattle.alike.proofs.Replies.{ticket_ok}
use Rattle.alike.proofs.Tests.{anchor_same, eqb_same, same_anchor_lem}
use Rattle.alike.specs.Invariant.{Ordered}
use Rattle.head_values.specs.Ranges.{AnchorFits, SkipFits}
use Rattle.hash.specs.Ranges.{Fits, HashFits}
use Rattle.head_call.specs.Ranges.{Writable}
use Rattle.head_current.specs.Parts.{report_of}
use Rattle.alike.proofs.Nexts.{delivered_at, released_at}
use Rattle.head_life.specs.Deliver.{new_head}

-- An anchor that is in neither of two slots: one of three numbers is not theirs.

other : ℕ → ℕ → ℕ
other m n = cond (eqb m 0) (cond (eqb n 1) 2 1) (cond (eqb n 0) (cond (eqb m 1) 2 1) 0)

other_not : (m n : ℕ) → (m ≡ other m n → ⊥) × (n ≡ other m n → ⊥)
unfolding other
other_not m n =
    cond_both (eqb m 0) _ _ (λ x. (m ≡ x → ⊥) × (n ≡ x → ⊥))
    (λ p. cond_both (eqb n 1) _ _ (λ x. (m ≡ x → ⊥) × (n ≡ x → ⊥))
    (λ q. (λ z. omega (arith, eqb-true m 0 p), λ z. omega (arith, eqb-true n 1 q)))
    (λ q. (λ z. omega (arith, eqb-true m 0 p), λ z. eqb-false n 1 q z)))
    (λ p. cond_both (eqb n 0) _ _ (λ x. (m ≡ x → ⊥) × (n ≡ x → ⊥))
    (λ q. cond_both (eqb m 1) _ _ (λ x. (m ≡ x → ⊥) × (n ≡ x → ⊥))
    (λ r. (λ z. omega (arith, eqb-true m 1 r), λ z. omega (arith, eqb-true n 0 q)))
    (λ r. (λ z. eqb-false m 1 r z, λ z. omega (arith, eqb-true n 0 q))))
    (λ q. (λ z. eqb-false m 0 p z, λ z. eqb-false n 0 q z)))

abbrev number_in : Option ReadAnchor → ℕ
number_in None = 0
number_in (Some a) = a.number

pub outside : Option ReadAnchor → Option ReadAnchor → ReadAnchor
outside s t = record { number = other (number_in s) (number_in t); hash = None }

other_number : (s : Option ReadAnchor) (b : ReadAnchor) → (number_in s ≡ b.number → ⊥) → holds s b ≡ false
unfolding holds
other_number None b n = refl
other_number (Some a) b n = false_from_ne_true _ (λ t. n (ap (λ c. c.number) (same_anchor_lem a b t)))

pub outside_first : (s t : Option ReadAnchor) → holds s (outside s t) ≡ false
unfolding outside
outside_first s t = other_number s _ (other_not (number_in s) (number_in t)).0

pub outside_second : (s t : Option ReadAnchor) → holds t (outside s t) ≡ false
unfolding outside
outside_second s t = other_number t _ (other_not (number_in s) (number_in t)).1

pub outside_fits : (s t : Option ReadAnchor) → AnchorFits (outside s t)
unfolding outside other
outside_fits s t = record {
  number = cond_both (eqb (number_in s) 0) _ _ Fits (λ p. cond_both (eqb (number_in t) 1) _ _ Fits (λ q. lit< tt) (λ q. lit< tt)) (λ p. cond_both (eqb (number_in t) 0) _ _ Fits (λ q. cond_both (eqb (number_in s) 1) _ _ Fits (λ r. lit< tt) (λ r. lit< tt)) (λ q. lit< tt));
  hash = tt;
}

-- Deliver.

pub zeros : Hash
zeros = record { w0 = 0; w1 = 0; w2 = 0; w3 = 0 }

pub zeros_fit : HashFits zeros
unfolding zeros
zeros_fit = record { w0 = lit< tt; w1 = lit< tt; w2 = lit< tt; w3 = lit< tt }

abbrev pub delivering : ReadAnchor → Call
delivering a = Call.Deliver a zeros 0

-- a delivery of another anchor than the current one is new
not_repeated : (s : Option HeadDelivery) (a : ReadAnchor) (p : Hash) → holds (anchor_of s) a ≡ false → repeats s a p ≡ false
unfolding repeats anchor_of holds
not_repeated None a p e = refl
not_repeated (Some held) a p e = rw e refl

abbrev pub delivered_new : Driver → Bool → ReadAnchor → Driver
delivered_new d installed a = moved d (delivered_at installed d.life a zeros 0) HeadCompletion.Superseded

pub deliver_new : (d : Driver) (a : ReadAnchor) (installed : Bool) → holds (current_anchor d) a ≡ false → holds (installed_anchor d) a ≡ installed → (step d (delivering a)).driver ≡ delivered_new d installed a
unfolding step deliver deliver_life new_head
deliver_new d a installed e o = rw (not_repeated (delivery d.life.current) a zeros e, o) refl

-- Release.

pub release_hit : (d : Driver) → Ordered d.life → (u : UnsettledHead) → d.life.current ≡ CurrentHead.Preparing u → (n : Seq) (e : Epoch) → d.life.seq ≡ n → d.life.claim_epoch ≡ e
    → (step d (Call.Release (record { seq = n; epoch = e }))).driver ≡ moved d (released_at d.life u) HeadCompletion.Abandoned
unfolding step release release_life released_head owned_by same_seq same_epoch delivery minted
release_hit d v u q n e p r =
    let s : u.delivery.seq ≡ n = (rw q at v.seq_current) ∙ p in
    let t : u.attempt.epoch ≡ e = ap (λ x. x.epoch) (rw q at v.preparing_attempt) ∙ r in
    rw (q, s, t, eqb_same n.0, eqb_same e.0) refl

-- An apply that settles cold, whatever is installed.

cold_skip : Option Hash → BalSkip
cold_skip None = BalSkip.NoHash
cold_skip (Some h) = BalSkip.Rpc 0

cold_skip_fits : (b : Option Hash) → SkipFits (cold_skip b)
unfolding cold_skip
cold_skip_fits None = tt
cold_skip_fits (Some h) = lit< tt

abbrev cold_list : ReadAnchor → PreparedBal
cold_list a = record { anchor = a; skip = cold_skip a.hash }

cold_prepared : (h : Option Hash) (n : ℕ) → as_prepared (record { anchor = record { number = n; hash = h }; skip = cold_skip h }) ≡ true
unfolding as_prepared cold_skip is_no_hash
cold_prepared None n = refl
cold_prepared (Some h) n = refl

cold_previous : (h : Option Hash) (link : Link) (i : Option Generation) → previous_after i (outcome link (cold_skip h) 0) ≡ None
unfolding previous_after outcome cold_skip is_linked is_decoded
cold_previous None Link.Linked i = refl
cold_previous (Some h) Link.Linked i = refl
cold_previous h Link.NoParent i = refl
cold_previous h Link.NotConsecutive i = refl
cold_previous h Link.HashUnknown i = refl
cold_previous h Link.HashMismatch i = refl

pub cold_call : ReadAnchor → Seq → Call
cold_call a n = Call.Apply (record { anchor = a; seq = n }) (cold_list a) 0 0 0

pub cold_writable : (a : ReadAnchor) (n : Seq) → AnchorFits a → Fits n.0 → Writable (cold_call a n)
unfolding cold_call
cold_writable a n f g = (f, g, f, cold_skip_fits a.hash, lit< tt, lit< tt, lit< tt)

-- what it leaves
pub record Colded (d : Driver) (a : ReadAnchor) (e : Driver) : Type 0 where
  pub settles : pose e.life.current ≡ Pose.Settled
  pub anchors : current_anchor e ≡ Some a
  pub keeps : e.life.superseded ≡ d.life.superseded
  pub installs : installed_anchor e ≡ Some a
  pub empties : e.life.previous ≡ None
  pub wakes : e.waiters ≡ woken_waiters HeadCompletion.Settled d.life.current e.life.current d.waiters

settle_colded : (d : Driver) (held : HeadDelivery) (o : CarryOutcome) (a : ReadAnchor) → previous_after d.life.installed o ≡ None → held.anchor ≡ a
    → Settles (settled_head d.life.current (settling_epoch d.life) (report_of o 0)) held (report_of o 0)
    → Colded d a (moved d (record_settle d.life held o 0 0) HeadCompletion.Settled)
unfolding moved record_settle anchor_of delivery slot_anchor
settle_colded d held o a p q s = record {
  settles = ap pose s.1;
  anchors = ap (λ c. anchor_of (delivery c)) s.1 ∙ ap Some q;
  keeps = refl;
  installs = ap Some q;
  empties = p;
  wakes = refl;
}

pub cold_step : (d : Driver) → Ordered d.life → Unsettled (pose d.life.current) → (a : ReadAnchor) → current_anchor d ≡ Some a → Colded d a (step d (cold_call a d.life.seq)).driver
unfolding cold_call step apply plan_apply plan_held apply_planned apply_settled apply_prepared
cold_step d v u a e =
    let h = held_at (delivery d.life.current) a e in
    let held = h.0 in
    let x : holds (installed_anchor d) held.anchor ≡ false = rw h.2 (not_installed d.life v d.life.current refl u a e) in
    rw (cold_prepared a.hash a.number, h.1, ticket_ok held a d.life.seq h.2 (rw h.1 at v.seq_current), anchor_same a held.anchor (sym h.2), x)
    (settle_colded d held _ a (cold_previous a.hash _ d.life.installed) h.2 (head_settles d.life v held x d.life.current refl h.1 _ _))
