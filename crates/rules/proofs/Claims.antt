-- A claim's 13, in every driver that lines bring: its other ground, that the head is settled, is then the same.
use Prim.Native.Nat.{ℕ}
use native.Mathlib.Omega.{arith}
use mathlib.Core.List.{List, [], ◌∷◌}
use mathlib.Core.Logic.{◌⊎◌, ◌↔◌, inl, inr}
use mathlib.Core.Path.{◌≡◌, refl, ap, sym, subst}
use Rattle.std.specs.Prelude.{Option, None, Some}
use Rattle.head_ready.specs.declared.Generation.{Generation}
use Rattle.head_current.specs.Heads.{delivery}
use Rattle.head_current.specs.declared.CurrentHead.{CurrentHead}
use Rattle.head_current.specs.declared.HeadDelivery.{HeadDelivery}
use Rattle.head_current.specs.declared.HeadTicket.{HeadTicket}
use Rattle.head_call.specs.declared.Call.{Call}
use Rattle.head_driver.specs.declared.Driver.{Driver}
use Rattle.alike.specs.Invariant.{Invariant}
use Rattle.script_call.specs.Calls.{call}
use Rattle.script_call.specs.declared.LineCall.{LineCall}
use Rattle.rules.specs.Refusals.{FirstThatApplies, HeadInstalled, IsSettled, Refusal, Test, already_settled, in_flight, later_tests, no_call, superseded}
use Rattle.rules.specs.Runs.{Entry, turn_at}
use Rattle.rules.specs.Said.{line_refusal}
use Rattle.rules.specs.TurnedAway.{ClaimsInstalled}
use Rattle.rules.proofs.Brought.{brought_keep}
use Rattle.rules.proofs.TurnedAway.{is_call, settled_installed, turned_away}

-- a refusal's number, and 0 where there is none
number_of : Refusal → ℕ
number_of Refusal.accepted = 0
number_of (Refusal.refused n names) = n

abbrev refusal_13 : Refusal
refusal_13 = Refusal.refused 13 []

module _ (line : List ℕ) (i : Option Generation) (c : CurrentHead) (ticket : HeadTicket) where
  abbrev ClaimTests : Option HeadDelivery → List Test
  ClaimTests s = no_call line ∷ (superseded s ticket ∷ (already_settled i c ∷ (in_flight c ∷ [])))

  abbrev Grounds : Option HeadDelivery → Type 0
  Grounds s = (¬ (superseded s ticket).applies) × (HeadInstalled i (delivery c) ⊎ IsSettled c)

  -- 13 is the third of them
  is_13 : (s : Option HeadDelivery) → FirstThatApplies (ClaimTests s) refusal_13 → Grounds s
  unfolding number_of
  is_13 s (inl p) = absurd (omega (arith, ap number_of p.1))
  is_13 None (inr (n, inl p)) = absurd (omega (arith, ap number_of p.1))
  is_13 (Some held) (inr (n, inl p)) = absurd (omega (arith, ap number_of p.1))
  is_13 s (inr (n, inr (m, inl p))) = (m, p.0)
  is_13 s (inr (n, inr (m, inr (k, inl p)))) = absurd (omega (arith, ap number_of p.1))
  is_13 s (inr (n, inr (m, inr (k, inr p)))) = absurd (omega (arith, ap number_of p.1))

  first_13 : (s : Option HeadDelivery) → ¬ (no_call line).applies → Grounds s → FirstThatApplies (ClaimTests s) refusal_13
  first_13 s n g = inr (n, inr (g.0, inl (g.1, refl)))

either_installed : {A B : Type 0} → (B → A) → A ⊎ B → A
either_installed f (inl a) = a
either_installed f (inr b) = f b

claim_13 : (d : Driver) → Invariant d → (e : Entry) (ticket : HeadTicket) → call e.line ≡ Some (LineCall.Make (Call.Claim ticket))
    → (line_refusal (turn_at d e).answer ≡ refusal_13) ↔ ((¬ (superseded (delivery d.life.current) ticket).applies) × HeadInstalled d.life.installed (delivery d.life.current))
claim_13 d v e ticket q =
    let c = d.life.current in
    let x = (turned_away d e.line e.buffer).exactly refusal_13 in
    let First = λ (l : Option LineCall). FirstThatApplies (no_call e.line ∷ later_tests d l e.buffer) refusal_13 in (
      λ r.
          let g = is_13 e.line d.life.installed c ticket (delivery c) (subst First q (x.0 r)) in
          (g.0, either_installed (settled_installed d v) g.1),
      λ g.
          x.1 (subst First (sym q) (first_13 e.line d.life.installed c ticket (delivery c) (is_call e.line (Call.Claim ticket) q) (g.0, inl g.1))),
    )

pub claims_installed : ClaimsInstalled
claims_installed d b e ticket q = claim_13 d (brought_keep d b) e ticket q
