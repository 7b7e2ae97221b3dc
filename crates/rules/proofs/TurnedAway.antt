-- Demand 1 over lines: a line is turned away exactly by the first condition that applies, and changes no more than document 01 says.
use Rattle.std.proofs.lemmas.Option.{same_Some}
use Rattle.head_ready.specs.declared.Generation.{Generation}
use Prim.Native.Nat.{ℕ}
use native.Mathlib.Omega.{arith}
use mathlib.Core.Bool.{Bool, true, false}
use mathlib.Core.List.{List, [], ◌∷◌}
use mathlib.Core.Logic.{inl, inr}
use mathlib.Core.Path.{◌≡◌, refl, ap, sym, ◌∙◌, subst}
use lib.Dec.{ltb}
use lib.ListN.{length}
use borrow.Author.Tests.{ltb-false, ltb-true}
use Rattle.std.specs.Prelude.{Option, Some, None}
use Rattle.alike.proofs.Tests.{nothing_at}
use Rattle.alike.specs.Invariant.{WhenSettled}
use Rattle.driver.specs.Turns.{made, sheet_after, sheet_answer, turn_of}
use Rattle.head_current.specs.Heads.{delivery}
use Rattle.head_ready.specs.Generations.{slot_anchor}
use Rattle.head_step.specs.Steps.{step}
use Rattle.script_call.proofs.Back.{call_given, sheet_back}
use Rattle.script_call.proofs.Only.{call_only, sheet_only}
use Rattle.script_call.proofs.Ranges.{call_range}
use Rattle.script_call.specs.Calls.{call}
use Rattle.script_call.specs.Texts.{sheet_call_text}
use Rattle.script_value.specs.Buffers.{buffer_after, written}
use Rattle.head_current.specs.declared.CurrentHead.{CurrentHead}
use Rattle.head_current.specs.declared.HeadDelivery.{HeadDelivery}
use Rattle.head_driver.specs.declared.Driver.{Driver}
use Rattle.head_call.specs.declared.Call.{Call}
use Rattle.script_call.specs.declared.LineCall.{LineCall}
use Rattle.rules.specs.Refusals.{FirstThatApplies, HeadInstalled, IsSettled, Refusal, Test, later_tests, no_call, tests, too_short}
use Rattle.rules.specs.Said.{answer_refusal, line_refusal}
use Rattle.rules.specs.TurnedAway.{SettledInstalled, TurnedAway, Unchanged}
use Rattle.rules.proofs.Said.{line_says}
use Rattle.rules.proofs.Tried.{Leaves, step_met}

-- ---- one refusal at most is the first

pub one_first : (ts : List Test) (r s : Refusal) → FirstThatApplies ts r → FirstThatApplies ts s → r ≡ s
one_first [] r s p q = p ∙ sym q
one_first (t ∷ ts) r s (inl p) (inl q) = p.1 ∙ sym q.1
one_first (t ∷ ts) r s (inl p) (inr q) = absurd (q.0 p.0)
one_first (t ∷ ts) r s (inr p) (inl q) = absurd (p.0 q.0)
one_first (t ∷ ts) r s (inr p) (inr q) = one_first ts r s p.1 q.1

-- ---- what each line gets

-- the first condition that applies says what is answered, and no more is changed
record Got (d : Driver) (ts : List Test) (q : Option LineCall) (buffer : List ℕ) : Type 0 where
  first : FirstThatApplies ts (line_refusal (turn_of d q buffer).answer)
  unchanged : Unchanged d q buffer (line_refusal (turn_of d q buffer).answer) (turn_of d q buffer).driver (sheet_after d q buffer)

kept : (d : Driver) (c : Call) (buffer : List ℕ) (r : Refusal) (d' : Driver) → Leaves d c r d' → Unchanged d (Some (LineCall.Make c)) buffer r d' buffer
kept d c buffer Refusal.accepted d' e = tt
kept d c buffer (Refusal.refused n names) d' e = (e, refl)

no_call_sheet : {X : Type 0} → None ≡ Some LineCall.Sheet → X
no_call_sheet p = cc

no_call_made : {X : Type 0} {c : Call} → None ≡ Some (LineCall.Make c) → X
no_call_made p = cc

-- a line that is read as no call is none
is_no_call : (line : List ℕ) → call line ≡ None → (no_call line).applies
unfolding sheet_call_text
is_no_call line e = (λ p. no_call_sheet (sym e ∙ ap call p ∙ sheet_back), λ c w p. no_call_made (sym e ∙ call_given line c w p))

is_sheet : (line : List ℕ) → call line ≡ Some LineCall.Sheet → ¬ (no_call line).applies
unfolding sheet_call_text
is_sheet line e n = n.0 (sheet_only line e)

pub is_call : (line : List ℕ) (c : Call) → call line ≡ Some (LineCall.Make c) → ¬ (no_call line).applies
is_call line c e n = n.1 c (rw e at (call_range line)) (call_only line c e)

sheet_got : (d : Driver) (buffer : List ℕ) (t : Test) → (¬ t.applies) → Got d (t ∷ (too_short buffer ∷ [])) (Some LineCall.Sheet) buffer
unfolding turn_of sheet_after sheet_answer written buffer_after
sheet_got d buffer t n = go (ltb (length buffer) 4096) refl
  where
    go : (b : Bool) → ltb (length buffer) 4096 ≡ b → Got d (t ∷ (too_short buffer ∷ [])) (Some LineCall.Sheet) buffer
    go true e = record { first = inr (n, inl (ltb-true (length buffer) 4096 e, rw e)); unchanged = rw e (refl, refl) }
    go false e = record { first = inr (n, inr (λ h. omega (arith, ltb-false (length buffer) 4096 e), rw e)); unchanged = rw e tt }

got : (d : Driver) (line buffer : List ℕ) (q : Option LineCall) → call line ≡ q → Got d (no_call line ∷ later_tests d q buffer) q buffer
unfolding turn_of made sheet_after
got d line buffer None e = record { first = inl (is_no_call line e, refl); unchanged = (refl, refl) }
got d line buffer (Some LineCall.Sheet) e = sheet_got d buffer (no_call line) (is_sheet line e)
got d line buffer (Some (LineCall.Make c)) e =
    let m = step_met d c in
    record { first = inr (is_call line c e, m.first); unchanged = kept d c buffer (answer_refusal (step d c).answer) (step d c).driver m.leaves }

-- ---- every line

pub turned_away : TurnedAway
turned_away d line buffer =
    let g = got d line buffer (call line) refl in
    record {
      exactly = λ r. (λ e. subst (FirstThatApplies (tests d line buffer)) e g.first, λ f. one_first (tests d line buffer) _ r g.first f);
      says = line_says (turn_of d (call line) buffer).answer;
      unchanged = g.unchanged;
    }

-- ---- a settled head is installed

anchor_installed : (i : Option Generation) (held : HeadDelivery) → slot_anchor i ≡ Some held.anchor → HeadInstalled i (Some held)
unfolding slot_anchor
anchor_installed None held e = nothing_at e
anchor_installed (Some g) held e = same_Some _ _ e

head_installed : (i : Option Generation) (c : CurrentHead) → WhenSettled c (λ s. slot_anchor i ≡ Some s.delivery.anchor) → IsSettled c → HeadInstalled i (delivery c)
unfolding delivery
head_installed i CurrentHead.Absent f s = absurd s
head_installed i (CurrentHead.Unclaimed u) f s = absurd s
head_installed i (CurrentHead.Preparing u) f s = absurd s
head_installed i (CurrentHead.Settled h) f s = anchor_installed i h.delivery f

pub settled_installed : SettledInstalled
settled_installed d v s = head_installed d.life.installed d.life.current v.ordered.settled_installed s
