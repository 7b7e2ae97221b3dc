-- The tests of the state machine decide document 01's conditions.
use Rattle.std.proofs.lemmas.Option.{same_Some}
use Rattle.std.proofs.lemmas.Bool.{and_parts}
use Rattle.std.specs.Prelude.{is_none, Option, None, Some}
use mathlib.Core.Bool.{beq}
use Rattle.head_ready.specs.declared.Generation.{Generation}
use Prim.Native.Nat.{ℕ, ◌<◌}
use native.Mathlib.Omega.{arith}
use mathlib.Core.Bool.{Bool, true, false}
use mathlib.Core.Logic.{◌↔◌}
use mathlib.Core.Path.{◌≡◌, refl, ap, sym}
use lib.Dec.{eqb, ltb}
use borrow.Author.Tests.{eqb-true, ltb-false, ltb-true}
use Rattle.alike.proofs.Tests.{anchor_same, eqb_same, same_anchor_lem, same_holds, holds_same, true_false, nothing_at}
use Rattle.head_values.specs.Anchors.{holds, same_anchor}
use Rattle.head_values.specs.Lists.{as_prepared, is_no_hash}
use Rattle.head_count.specs.Counters.{same_seq}
use Rattle.head_current.specs.Heads.{has_ticket}
use Rattle.head_ready.specs.Generations.{slot_anchor}
use Rattle.hash.specs.declared.Hash.{Hash}
use Rattle.head_values.specs.declared.BalSkip.{BalSkip}
use Rattle.head_values.specs.declared.PreparedBal.{PreparedBal}
use Rattle.head_values.specs.declared.ReadAnchor.{ReadAnchor}
use Rattle.head_current.specs.declared.HeadDelivery.{HeadDelivery}
use Rattle.head_current.specs.declared.HeadTicket.{HeadTicket}
use Rattle.rules.specs.Refusals.{HeadInstalled}

-- ---- the list

abbrev Agree : BalSkip → Option Hash → Type 0
Agree x h = (x ≡ BalSkip.NoHash) ↔ (h ≡ None)

known_unknown : {X : Type 0} {h : Hash} → Some h ≡ None → X
known_unknown p = cc

-- a skip that is not `no-hash`
abbrev Other : BalSkip → Type 0
Other x = x ≡ BalSkip.NoHash → ⊥

nothing_other : Other BalSkip.Nothing
nothing_other p = cc

rpc_other : (n : ℕ) → Other (BalSkip.Rpc n)
rpc_other n p = cc

decode_other : (n : ℕ) → Other (BalSkip.Decode n)
decode_other n p = cc

abbrev agrees : BalSkip → Option Hash → Bool
agrees x h = beq (is_no_hash x) (is_none h)

other_agree : (x : BalSkip) (h : Hash) → Other x → Agree x (Some h)
other_agree x h n = (λ e. absurd (n e), λ e. known_unknown e)

agree : (x : BalSkip) (h : Option Hash) → agrees x h ≡ true → Agree x h
unfolding is_no_hash
agree BalSkip.Nothing None e = true_false e refl
agree BalSkip.Nothing (Some h) e = other_agree BalSkip.Nothing h nothing_other
agree BalSkip.NoHash None e = (λ p. refl, λ p. refl)
agree BalSkip.NoHash (Some h) e = true_false e refl
agree (BalSkip.Rpc n) None e = true_false e refl
agree (BalSkip.Rpc n) (Some h) e = other_agree (BalSkip.Rpc n) h (rpc_other n)
agree (BalSkip.Decode n) None e = true_false e refl
agree (BalSkip.Decode n) (Some h) e = other_agree (BalSkip.Decode n) h (decode_other n)

disagree : (x : BalSkip) (h : Option Hash) → agrees x h ≡ false → ¬ Agree x h
unfolding is_no_hash
disagree BalSkip.Nothing None e a = nothing_other (a.1 refl)
disagree BalSkip.Nothing (Some h) e a = true_false refl e
disagree BalSkip.NoHash None e a = true_false refl e
disagree BalSkip.NoHash (Some h) e a = known_unknown (a.0 refl)
disagree (BalSkip.Rpc n) None e a = rpc_other n (a.1 refl)
disagree (BalSkip.Rpc n) (Some h) e a = true_false refl e
disagree (BalSkip.Decode n) None e a = decode_other n (a.1 refl)
disagree (BalSkip.Decode n) (Some h) e a = true_false refl e

pub list_agrees : (list : PreparedBal) → as_prepared list ≡ true → ¬ ¬ Agree list.skip list.anchor.hash
unfolding as_prepared
list_agrees list e n = n (agree list.skip list.anchor.hash e)

pub list_at_odds : (list : PreparedBal) → as_prepared list ≡ false → ¬ Agree list.skip list.anchor.hash
unfolding as_prepared
list_at_odds list e = disagree list.skip list.anchor.hash e

-- ---- the waiter's number

pub number_low : (n : ℕ) → ltb 15 n ≡ false → ¬ (15 < n)
number_low n e h = omega (arith, ltb-false 15 n e)

pub number_high : (n : ℕ) → ltb 15 n ≡ true → 15 < n
number_high n e = ltb-true 15 n e

-- ---- the ticket

abbrev TicketOf : HeadDelivery → HeadTicket → Type 0
TicketOf held ticket = (ticket.anchor ≡ held.anchor) × (ticket.seq ≡ held.seq)

pub ticket_is : (held : HeadDelivery) (ticket : HeadTicket) → has_ticket held ticket ≡ true → TicketOf held ticket
unfolding has_ticket same_seq
ticket_is held ticket e =
    let a = same_anchor held.anchor ticket.anchor in
    let n = eqb held.seq.0 ticket.seq.0 in
    let q = eqb-true _ _ ((and_parts a n e).1) in
    (sym (same_anchor_lem held.anchor ticket.anchor ((and_parts a n e).0)), sym (λ i. record { 0 = q i }))

pub ticket_is_not : (held : HeadDelivery) (ticket : HeadTicket) → has_ticket held ticket ≡ false → ¬ TicketOf held ticket
unfolding has_ticket same_seq
ticket_is_not held ticket e t = true_false {b = has_ticket held ticket} (rw (anchor_same held.anchor ticket.anchor (sym t.0), t.1, eqb_same held.seq.0)) e

-- ---- the anchors

pub anchor_is_not : (a b : ReadAnchor) → same_anchor a b ≡ false → ¬ (a ≡ b)
anchor_is_not a b e p = true_false (anchor_same a b p) e

pub installed_is : (g : Option Generation) (held : HeadDelivery) → holds (slot_anchor g) held.anchor ≡ true → HeadInstalled g (Some held)
unfolding slot_anchor
installed_is None held e = nothing_at (holds_same None held.anchor e)
installed_is (Some g) held e = same_Some _ _ (holds_same (Some g.anchor) held.anchor e)

pub installed_is_not : (g : Option Generation) (held : HeadDelivery) → holds (slot_anchor g) held.anchor ≡ false → ¬ HeadInstalled g (Some held)
unfolding slot_anchor
installed_is_not None held e p = p
installed_is_not (Some g) held e p = true_false (same_holds (Some g.anchor) held.anchor (ap Some p)) e
