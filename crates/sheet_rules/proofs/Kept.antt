-- A driver in sheet form that meets the rules keeps the invariant, and shows just itself.
use Prim.Native.Nat.{ℕ}
use mathlib.Core.Bool.{Bool, true, false}
use mathlib.Core.Path.{◌≡◌, refl, ap, sym, ◌∙◌}
use Rattle.std.proofs.lemmas.Bool.{false_from_ne_true}
use Rattle.std.specs.Prelude.{Option, None, Some, ◌&&◌, ◌||◌}
use Rattle.head_values.specs.Anchors.{holds}
use Rattle.head_values.specs.Lists.{is_decoded, is_linked}
use Rattle.head_values.specs.declared.BalSkip.{BalSkip}
use Rattle.head_values.specs.declared.CarryOutcome.{CarryOutcome}
use Rattle.head_values.specs.declared.Link.{Link}
use Rattle.head_values.specs.declared.ReadAnchor.{ReadAnchor}
use Rattle.head_attempt.specs.Attempts.{minted, settled}
use Rattle.head_attempt.specs.declared.ClaimAttempt.{ClaimAttempt}
use Rattle.head_attempt.specs.declared.HeadCompletion.{HeadCompletion}
use Rattle.head_count.specs.Counters.{seq_of}
use Rattle.head_count.specs.declared.Epoch.{Epoch}
use Rattle.head_count.specs.declared.Seq.{Seq}
use Rattle.head_ready.specs.Generations.{slot_anchor}
use Rattle.head_ready.specs.declared.Generation.{Generation}
use Rattle.head_ready.specs.declared.HeadCold.{HeadCold}
use Rattle.head_ready.specs.declared.HeadReadiness.{HeadReadiness}
use Rattle.head_current.specs.Heads.{anchor_of, current_report, delivery, is_settled}
use Rattle.head_current.specs.declared.CurrentHead.{CurrentHead}
use Rattle.head_current.specs.declared.DeltaReport.{DeltaReport}
use Rattle.head_current.specs.declared.HeadDelivery.{HeadDelivery}
use Rattle.head_life.specs.Apply.{settled_readiness}
use Rattle.head_driver.specs.declared.Driver.{Driver}
use Rattle.alike.proofs.Masks.{mask_at}
use Rattle.alike.proofs.Shown.{shown_waiters_lem}
use Rattle.alike.proofs.Tests.{holds_same, same_holds, true_false}
use Rattle.alike.specs.Canon.{canon, masked, mask_by, shown_head, shown_life, shown_superseded}
use Rattle.alike.specs.Invariant.{FromApply, Invariant, NumberAtMost, WhenGeneration, WhenHeld, WhenMade, WhenPreparing, WhenSettled, WhenUnsettled}
use Rattle.sheet_rules.specs.Form.{InForm, KeptReadiness}
use Rattle.sheet_rules.specs.Rules.{FaultIfCold, MeetsRules}

-- ---- the head that is shown has seq and attempts as a sheet implies them

head_delivery : CurrentHead → HeadDelivery → HeadDelivery
head_delivery CurrentHead.Absent h = h
head_delivery (CurrentHead.Unclaimed u) h = u.delivery
head_delivery (CurrentHead.Preparing u) h = u.delivery
head_delivery (CurrentHead.Settled s) h = s.delivery

head_attempt : CurrentHead → ClaimAttempt → ClaimAttempt
head_attempt CurrentHead.Absent a = a
head_attempt (CurrentHead.Unclaimed u) a = u.attempt
head_attempt (CurrentHead.Preparing u) a = u.attempt
head_attempt (CurrentHead.Settled s) a = s.attempt

module _ (n : ℕ) (e : Epoch) where
  shown_seq : (c : CurrentHead) → shown_head n e c ≡ c → WhenHeld (delivery c) (λ held. held.seq ≡ seq_of n)
  unfolding delivery shown_head head_delivery
  shown_seq CurrentHead.Absent p = tt
  shown_seq (CurrentHead.Unclaimed u) p = sym (ap (λ (c : CurrentHead). (head_delivery c u.delivery).seq) p)
  shown_seq (CurrentHead.Preparing u) p = sym (ap (λ (c : CurrentHead). (head_delivery c u.delivery).seq) p)
  shown_seq (CurrentHead.Settled s) p = sym (ap (λ (c : CurrentHead). (head_delivery c s.delivery).seq) p)

  shown_minted : (c : CurrentHead) → shown_head n e c ≡ c → WhenPreparing c (λ u. u.attempt ≡ minted e)
  unfolding shown_head head_attempt
  shown_minted CurrentHead.Absent p = tt
  shown_minted (CurrentHead.Unclaimed u) p = tt
  shown_minted (CurrentHead.Preparing u) p = sym (ap (λ (c : CurrentHead). head_attempt c u.attempt) p)
  shown_minted (CurrentHead.Settled s) p = tt

  shown_end : (c : CurrentHead) → shown_head n e c ≡ c → WhenSettled c (λ s. s.attempt.end ≡ HeadCompletion.Settled)
  unfolding shown_head head_attempt settled
  shown_end CurrentHead.Absent p = tt
  shown_end (CurrentHead.Unclaimed u) p = tt
  shown_end (CurrentHead.Preparing u) p = tt
  shown_end (CurrentHead.Settled s) p = sym (ap (λ (c : CurrentHead). (head_attempt c s.attempt).end) p)

-- ---- readiness: a fault in one part

fault_test : (link : Link) (skip : BalSkip) → ¬ ((link ≡ Link.Linked) × (skip ≡ BalSkip.Nothing))
    → (is_linked link && is_decoded skip) ≡ false
unfolding is_linked is_decoded
fault_test Link.Linked BalSkip.Nothing f = absurd (f (refl, refl))
fault_test Link.Linked BalSkip.NoHash f = refl
fault_test Link.Linked (BalSkip.Rpc n) f = refl
fault_test Link.Linked (BalSkip.Decode n) f = refl
fault_test Link.NoParent skip f = refl
fault_test Link.NotConsecutive skip f = refl
fault_test Link.HashUnknown skip f = refl
fault_test Link.HashMismatch skip f = refl

from_apply : (r : HeadReadiness) → KeptReadiness r → FaultIfCold r → FromApply r
from_apply HeadReadiness.Ready k f = tt
from_apply (HeadReadiness.Cold HeadCold.Unprepared) k f = absurd k
from_apply (HeadReadiness.Cold HeadCold.Superseded) k f = absurd k
from_apply (HeadReadiness.Cold HeadCold.Undelivered) k f = absurd k
from_apply (HeadReadiness.Cold HeadCold.Abandoned) k f = absurd k
from_apply (HeadReadiness.Cold (HeadCold.Settled link skip)) k f = fault_test link skip f

slot_apply : (g : Option Generation) → WhenGeneration g (λ g. KeptReadiness g.readiness) → WhenGeneration g (λ g. FaultIfCold g.readiness)
    → WhenGeneration g (λ g. FromApply g.readiness)
slot_apply None k f = tt
slot_apply (Some g) k f = from_apply g.readiness k f

outcome_apply : (o : CarryOutcome) → FaultIfCold (settled_readiness o) → FromApply (settled_readiness o)
unfolding settled_readiness
outcome_apply (CarryOutcome.Carried c) f = tt
outcome_apply (CarryOutcome.Cold link skip) f = fault_test link skip f

report_apply : (r : Option DeltaReport) → WhenMade r (λ o. FaultIfCold (settled_readiness o))
    → WhenMade r (λ o. FromApply (settled_readiness o))
report_apply None f = tt
report_apply (Some r) f = outcome_apply r.outcome f

-- ---- tests from plain equality

not_held : (i : Option ReadAnchor) (a : ReadAnchor) → ¬ (i ≡ Some a) → holds i a ≡ false
not_held i a f = false_from_ne_true (holds i a) (λ t. f (holds_same i a t))

elsewhere : (c : CurrentHead) (i : Option ReadAnchor) → WhenUnsettled c (λ u. ¬ (i ≡ Some u.delivery.anchor))
    → WhenUnsettled c (λ u. holds i u.delivery.anchor ≡ false)
elsewhere CurrentHead.Absent i f = tt
elsewhere (CurrentHead.Unclaimed u) i f = not_held i u.delivery.anchor f
elsewhere (CurrentHead.Preparing u) i f = not_held i u.delivery.anchor f
elsewhere (CurrentHead.Settled s) i f = tt

number_seq : (g : Option Generation) (n : ℕ) (s : Seq) → s ≡ seq_of n → WhenGeneration g (NumberAtMost n)
    → WhenGeneration g (NumberAtMost s.0)
number_seq g n s e f = rw e f

-- ---- the invariant

pub meets_keeps : (d : Driver) → InForm d → MeetsRules d → Invariant d
meets_keeps d f m =
    let l = d.life in
    let n = shown_seq l.stats.delivered l.claim_epoch l.current f.head in
    record {
      ordered = record {
        seq_delivered = f.seq;
        seq_current = rw f.seq n;
        preparing_attempt = shown_minted l.stats.delivered l.claim_epoch l.current f.head;
        settled_end = shown_end l.stats.delivered l.claim_epoch l.current f.head;
        settled_installed = m.settled_is_installed.0;
        unsettled_elsewhere = elsewhere l.current (slot_anchor l.installed) m.unsettled_is_not;
        unclaimed_end = f.end;
        absent_rest = m.none_without_head;
        previous_below = m.previous_needs_installed;
        installed_readiness = slot_apply l.installed f.installed m.names_a_fault.1;
        previous_readiness = slot_apply l.previous f.previous m.names_a_fault.2;
        report_readiness = report_apply (current_report l.current) m.names_a_fault.0;
        report_installed = m.settled_is_installed.1;
        preparing_epoch = m.needs_epoch.0;
        abandoned_epoch = m.needs_epoch.1;
        installed_number = number_seq l.installed l.stats.delivered l.seq f.seq m.numbers_within.0;
        previous_number = number_seq l.previous l.stats.delivered l.seq f.seq m.numbers_within.1;
      };
      parks = m.parked_need_preparing;
      fits = f.fits;
    }

-- ---- and it shows just itself

not_masked : (c : CurrentHead) (p : Option Generation) (a : ReadAnchor) → ¬ (anchor_of (delivery c) ≡ Some a)
    → WhenSettled c (λ s. ¬ (slot_anchor p ≡ Some a)) → masked c p a ≡ false
unfolding masked is_settled
not_masked CurrentHead.Absent p a f g = rw (not_held _ a f) refl
not_masked (CurrentHead.Unclaimed u) p a f g = rw (not_held _ a f) refl
not_masked (CurrentHead.Preparing u) p a f g = rw (not_held _ a f) refl
not_masked (CurrentHead.Settled s) p a f g = rw (not_held _ a f) (not_held _ a g)

superseded_self : (c : CurrentHead) (p : Option Generation) (s : Option ReadAnchor)
    → ((a : ReadAnchor) → s ≡ Some a → (¬ (anchor_of (delivery c) ≡ Some a)) × WhenSettled c (λ h. ¬ (slot_anchor p ≡ Some a)))
    → shown_superseded c p s ≡ s
unfolding shown_superseded mask_by
superseded_self c p None f = refl
superseded_self c p (Some a) f = let m = f a refl in rw (not_masked c p a m.0 m.1) refl

pub shows_self : (d : Driver) → InForm d → MeetsRules d → canon d ≡ d
unfolding canon shown_life
shows_self d f m =
    let l = d.life in
    let s = superseded_self l.current l.previous l.superseded m.superseded_shown in
    let w = shown_waiters_lem d.waiters in
    let n = sym f.seq in
    let h = f.head in
    λ j. record {
      life = record {
        current = h j;
        superseded = s j;
        installed = l.installed;
        previous = l.previous;
        seq = n j;
        claim_epoch = l.claim_epoch;
        stats = l.stats;
      };
      waiters = w j;
    }

-- ---- what a driver that keeps the invariant shows is in form and meets the rules

kept_of : (r : HeadReadiness) → FromApply r → KeptReadiness r × FaultIfCold r
unfolding is_linked is_decoded
kept_of HeadReadiness.Ready f = (tt, tt)
kept_of (HeadReadiness.Cold HeadCold.Unprepared) f = absurd f
kept_of (HeadReadiness.Cold HeadCold.Superseded) f = absurd f
kept_of (HeadReadiness.Cold HeadCold.Undelivered) f = absurd f
kept_of (HeadReadiness.Cold HeadCold.Abandoned) f = absurd f
kept_of (HeadReadiness.Cold (HeadCold.Settled link skip)) f = (tt, λ p. true_false (rw (p.0, p.1) refl) f)

slot_kept : (g : Option Generation) → WhenGeneration g (λ g. FromApply g.readiness)
    → WhenGeneration g (λ g. KeptReadiness g.readiness) × WhenGeneration g (λ g. FaultIfCold g.readiness)
slot_kept None f = (tt, tt)
slot_kept (Some g) f = kept_of g.readiness f

outcome_fault_if_cold : (o : CarryOutcome) → FromApply (settled_readiness o) → FaultIfCold (settled_readiness o)
unfolding settled_readiness
outcome_fault_if_cold (CarryOutcome.Carried c) f = tt
outcome_fault_if_cold (CarryOutcome.Cold link skip) f = (kept_of (HeadReadiness.Cold (HeadCold.Settled link skip)) f).1

report_fault_if_cold : (r : Option DeltaReport) → WhenMade r (λ o. FromApply (settled_readiness o))
    → WhenMade r (λ o. FaultIfCold (settled_readiness o))
report_fault_if_cold None f = tt
report_fault_if_cold (Some r) f = outcome_fault_if_cold r.outcome f

not_equal : (i : Option ReadAnchor) (a : ReadAnchor) → holds i a ≡ false → ¬ (i ≡ Some a)
not_equal i a f e = true_false (same_holds i a e) f

apart : (c : CurrentHead) (i : Option ReadAnchor) → WhenUnsettled c (λ u. holds i u.delivery.anchor ≡ false)
    → WhenUnsettled c (λ u. ¬ (i ≡ Some u.delivery.anchor))
apart CurrentHead.Absent i f = tt
apart (CurrentHead.Unclaimed u) i f = not_equal i u.delivery.anchor f
apart (CurrentHead.Preparing u) i f = not_equal i u.delivery.anchor f
apart (CurrentHead.Settled s) i f = tt

or_parts : (a b : Bool) → (a || b) ≡ false → (a ≡ false) × (b ≡ false)
or_parts true b e = true_false refl e
or_parts false b e = (refl, e)

told_masked : (c : CurrentHead) (p : Option Generation) (a : ReadAnchor) → masked c p a ≡ false
    → (¬ (anchor_of (delivery c) ≡ Some a)) × WhenSettled c (λ s. ¬ (slot_anchor p ≡ Some a))
unfolding masked is_settled
told_masked CurrentHead.Absent p a e = (not_equal _ a (or_parts _ _ e).0, tt)
told_masked (CurrentHead.Unclaimed u) p a e = (not_equal _ a (or_parts _ _ e).0, tt)
told_masked (CurrentHead.Preparing u) p a e = (not_equal _ a (or_parts _ _ e).0, tt)
told_masked (CurrentHead.Settled s) p a e = (not_equal _ a (or_parts _ _ e).0, not_equal _ a (or_parts _ _ e).1)

pub keeps_meets : (d : Driver) → Invariant d → canon d ≡ d → InForm d × MeetsRules d
unfolding canon shown_life shown_superseded
keeps_meets d v p =
    let l = d.life in
    let o = v.ordered in
    let i = slot_kept l.installed o.installed_readiness in
    let q = slot_kept l.previous o.previous_readiness in (
      record {
        fits = v.fits;
        seq = o.seq_delivered;
        head = ap (λ (x : Driver). x.life.current) p;
        end = o.unclaimed_end;
        installed = i.0;
        previous = q.0;
      },
      record {
        none_without_head = o.absent_rest;
        settled_is_installed = (o.settled_installed, o.report_installed);
        unsettled_is_not = apart l.current (slot_anchor l.installed) o.unsettled_elsewhere;
        previous_needs_installed = o.previous_below;
        names_a_fault = (report_fault_if_cold (current_report l.current) o.report_readiness, i.1, q.1);
        parked_need_preparing = v.parks;
        needs_epoch = (o.preparing_epoch, o.abandoned_epoch);
        superseded_shown = λ a e. told_masked l.current l.previous a
            (mask_at (masked l.current l.previous) l.superseded a (ap (λ (x : Driver). x.life.superseded) p ∙ e)).1;
        numbers_within = (rw o.seq_delivered at o.installed_number, rw o.seq_delivered at o.previous_number);
      },
    )
