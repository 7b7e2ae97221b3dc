-- Every call keeps the lifecycle's rules, I1 to I6 and I8 to I11.
use Rattle.std.proofs.lemmas.Bool.{cond_both, and_parts}
use Rattle.std.specs.Prelude.{Option, None, Some, not, ◌&&◌}
use Rattle.head_current.specs.declared.DeltaReport.{DeltaReport}
use Prim.Native.Nat.{ℕ, ◌+◌, ◌≤◌}
use mathlib.Core.Bool.{Bool, true, false}
use mathlib.Core.Path.{◌≡◌, refl, sym, ap, ◌∙◌, subst}
use native.Mathlib.Omega.{arith}
use lib.Dec.{eqb}
use borrow.Author.Tests.{eqb-true}
use Rattle.head_values.specs.Anchors.{holds}
use Rattle.head_values.specs.Links.{classify_link, follows}
use Rattle.head_values.specs.Lists.{apply_prepared, is_linked, is_decoded, outcome}
use Rattle.head_attempt.specs.Attempts.{first_end, minted, publish, settled}
use Rattle.head_count.specs.Counters.{next_epoch, next_seq, raise, raise_if, seq_of, up}
use Rattle.head_current.specs.Heads.{delivery, current_report, is_unsettled}
use Rattle.head_current.specs.Moves.{settled_head, claimed_head}
use Rattle.head_life.specs.Apply.{record_settle, previous_after, settled_readiness}
use Rattle.head_current.specs.Parts.{report_of, settled_of}
use Rattle.head_driver.specs.Parts.{with_life}
use Rattle.head_ready.specs.Generations.{slot_anchor}
use Rattle.head_life.specs.State.{counted, with_stats}
use Rattle.head_step.specs.Steps.{step}
use Rattle.head_waits.specs.Parts.{put}
use Rattle.hash.specs.declared.Hash.{Hash}
use Rattle.head_values.specs.declared.BalSkip.{BalSkip}
use Rattle.head_values.specs.declared.CarryOutcome.{CarryOutcome}
use Rattle.head_values.specs.declared.Link.{Link}
use Rattle.head_values.specs.declared.ReadAnchor.{ReadAnchor}
use Rattle.head_attempt.specs.declared.ClaimAttempt.{ClaimAttempt}
use Rattle.head_count.specs.declared.Epoch.{Epoch}
use Rattle.head_attempt.specs.declared.HeadCompletion.{HeadCompletion}
use Rattle.head_count.specs.declared.HeadStats.{HeadStats}
use Rattle.head_count.specs.declared.Seq.{Seq}
use Rattle.head_current.specs.declared.CurrentHead.{CurrentHead}
use Rattle.head_current.specs.declared.HeadDelivery.{HeadDelivery}
use Rattle.head_current.specs.declared.UnsettledHead.{UnsettledHead}
use Rattle.head_driver.specs.declared.Driver.{Driver}
use Rattle.head_ready.specs.declared.Generation.{Generation}
use Rattle.head_life.specs.declared.HeadLifecycle.{HeadLifecycle}
use Rattle.head_call.specs.declared.Call.{Call}
use Rattle.alike.proofs.Moves.{Move, step_move}
use Rattle.alike.proofs.Tests.{holds_same, same_holds, true_false, true_from_not_false, up_least, up_positive}
use Rattle.alike.specs.Invariant.{Follows, FromApply, NumberAtMost, OpenOrAbandoned, Ordered, WhenGeneration}
use Rattle.head_life.specs.Apply.{settling_epoch}
use Rattle.head_life.specs.Deliver.{new_head}
use Rattle.head_driver.specs.Moved.{moved}
use Rattle.alike.proofs.Nexts.{claimed_at, count_delivery, delivered_at, released_at}
use Rattle.head_current.specs.Moves.{is_abandoned}

-- a lifecycle with its eight counters changed, delivered excepted
ordered_stats : (l : HeadLifecycle) (s : HeadStats) → s.delivered ≡ l.stats.delivered → Ordered l → Ordered (with_stats l s)
ordered_stats l s e v = record {
  seq_delivered = v.seq_delivered ∙ ap seq_of (sym e);
  seq_current = v.seq_current;
  preparing_attempt = v.preparing_attempt;
  settled_end = v.settled_end;
  settled_installed = v.settled_installed;
  unsettled_elsewhere = v.unsettled_elsewhere;
  unclaimed_end = v.unclaimed_end;
  absent_rest = v.absent_rest;
  previous_below = v.previous_below;
  installed_readiness = v.installed_readiness;
  previous_readiness = v.previous_readiness;
  report_readiness = v.report_readiness;
  report_installed = v.report_installed;
  preparing_epoch = v.preparing_epoch;
  abandoned_epoch = v.abandoned_epoch;
  installed_number = v.installed_number;
  previous_number = v.previous_number;
}

-- deliver

-- delivered rises by one whatever else is counted
count_delivered : (installed unsettled : Bool) (s : HeadStats) → (count_delivery installed unsettled s).delivered ≡ up s.delivered
unfolding raise_if raise
count_delivered true true s = refl
count_delivered true false s = refl
count_delivered false true s = refl
count_delivered false false s = refl

-- a number that is at most seq is at most the next seq
number_rises : (i : Option Generation) (n : Seq)
    → WhenGeneration i (NumberAtMost n.0) → WhenGeneration i (NumberAtMost (next_seq n).0)
unfolding next_seq
number_rises None n h = tt
number_rises (Some g) n h = omega (arith, h, up_least n.0)

-- equal delivery numbers, as a bound
seq_at_most : (m n : Seq) → m ≡ n → m.0 ≤ n.0
seq_at_most m n e = rw e (omega arith)

open_abandoned : {X : Type 0} → HeadCompletion.Open ≡ HeadCompletion.Abandoned → X
open_abandoned e = cc

module _ (l : HeadLifecycle) (v : Ordered l) where
  next_delivered : (installed : Bool) → next_seq l.seq ≡ seq_of (count_delivery installed (is_unsettled l.current) l.stats).delivered
  unfolding next_seq
  next_delivered installed = rw (count_delivered, v.seq_delivered) refl

  ordered_delivered : (installed : Bool) (a : ReadAnchor) (p : Hash) (cold : ℕ) → holds (slot_anchor l.installed) a ≡ installed → Ordered (delivered_at installed l a p cold)
  unfolding new_head delivery current_report minted settled
  ordered_delivered true a p cold e = record {
    seq_delivered = next_delivered true;
    seq_current = refl;
    preparing_attempt = tt;
    settled_end = refl;
    settled_installed = holds_same _ _ e;
    unsettled_elsewhere = tt;
    unclaimed_end = tt;
    absent_rest = tt;
    previous_below = v.previous_below;
    installed_readiness = v.installed_readiness;
    previous_readiness = v.previous_readiness;
    report_readiness = tt;
    report_installed = tt;
    preparing_epoch = tt;
    abandoned_epoch = tt;
    installed_number = number_rises l.installed l.seq v.installed_number;
    previous_number = number_rises l.previous l.seq v.previous_number;
  }
  ordered_delivered false a p cold e = record {
    seq_delivered = next_delivered false;
    seq_current = refl;
    preparing_attempt = tt;
    settled_end = tt;
    settled_installed = tt;
    unsettled_elsewhere = e;
    unclaimed_end = tt;
    absent_rest = tt;
    previous_below = v.previous_below;
    installed_readiness = v.installed_readiness;
    previous_readiness = v.previous_readiness;
    report_readiness = tt;
    report_installed = tt;
    preparing_epoch = tt;
    abandoned_epoch = open_abandoned;
    installed_number = number_rises l.installed l.seq v.installed_number;
    previous_number = number_rises l.previous l.seq v.previous_number;
  }

  -- claim and release

  ordered_claimed : (u : UnsettledHead) → l.current ≡ CurrentHead.Unclaimed u → Ordered (claimed_at l)
  unfolding claimed_head delivery current_report next_epoch
  ordered_claimed u q = rw q (record {
    seq_delivered = v.seq_delivered;
    seq_current = rw q at v.seq_current;
    preparing_attempt = refl;
    settled_end = tt;
    settled_installed = tt;
    unsettled_elsewhere = rw q at v.unsettled_elsewhere;
    unclaimed_end = tt;
    absent_rest = tt;
    previous_below = v.previous_below;
    installed_readiness = v.installed_readiness;
    previous_readiness = v.previous_readiness;
    report_readiness = tt;
    report_installed = tt;
    preparing_epoch = up_positive _;
    abandoned_epoch = tt;
    installed_number = v.installed_number;
    previous_number = v.previous_number;
  })

  ordered_released : (u : UnsettledHead) → l.current ≡ CurrentHead.Preparing u → Ordered (released_at l u)
  unfolding delivery current_report publish first_end minted
  ordered_released u q =
      let t : u.attempt ≡ minted l.claim_epoch = rw q at v.preparing_attempt in
      record {
        seq_delivered = v.seq_delivered;
        seq_current = rw q at v.seq_current;
        preparing_attempt = tt;
        settled_end = tt;
        settled_installed = tt;
        unsettled_elsewhere = rw q at v.unsettled_elsewhere;
        unclaimed_end = rw t tt;
        absent_rest = tt;
        previous_below = v.previous_below;
        installed_readiness = v.installed_readiness;
        previous_readiness = v.previous_readiness;
        report_readiness = tt;
        report_installed = tt;
        preparing_epoch = tt;
        abandoned_epoch = λ z. rw q at v.preparing_epoch;
        installed_number = v.installed_number;
        previous_number = v.previous_number;
      }

-- apply

-- an outcome is carried, or cold with a fault
outcome_faulty : (link : Link) (skip : BalSkip) (carried : ℕ) → FromApply (settled_readiness (outcome link skip carried))
unfolding outcome settled_readiness
outcome_faulty link skip carried = cond_both (is_linked link && is_decoded skip) _ _ (λ o. FromApply (settled_readiness o)) (λ e. tt) (λ e. e)

-- what becomes previous keeps its readiness and its number
previous_kept : (P : Generation → Type 0) (i : Option Generation) (o : CarryOutcome)
    → WhenGeneration i P → WhenGeneration (previous_after i o) P
unfolding previous_after
previous_kept P i (CarryOutcome.Carried n) f = f
previous_kept P i (CarryOutcome.Cold link skip) f = tt

-- and is one number lower: only a linked head is carried
carried_below : (g q : Generation) (o : CarryOutcome) → q.anchor.number + 1 ≡ g.anchor.number → Follows (Some g) (previous_after (Some q) o)
unfolding previous_after
carried_below g q (CarryOutcome.Carried n) e = e
carried_below g q (CarryOutcome.Cold link skip) e = tt

applied_below : (i : Option Generation) (g : Generation) (p : Hash) (skip : BalSkip) (carried : ℕ) → Follows (Some g) (previous_after i (apply_prepared (slot_anchor i) g.anchor p skip carried))
unfolding apply_prepared outcome classify_link slot_anchor follows
applied_below None g p skip carried = unfold previous_after is_linked in tt
applied_below (Some q) g p skip carried =
    let t = eqb (q.anchor.number + 1) g.anchor.number in
    let r = not (eqb q.anchor.number 0xffff_ffff_ffff_ffff) in
    cond_both (not (t && r)) _ _ (λ k. Follows (Some g) (previous_after (Some q) (outcome k skip carried)))
    (λ e. unfold previous_after is_linked in tt)
    (λ e. carried_below g q _ (eqb-true _ _ (and_parts t r (true_from_not_false _ e)).0))

pub nothing_held : {X : Type 0} {held : HeadDelivery} → None ≡ Some held → X
nothing_held p = cc

pub held_same : {x y : HeadDelivery} → Some x ≡ Some y → x ≡ y
held_same p = cc

-- An unsettled head that an apply settles: its delivery, the report given, an attempt ended settled.
abbrev pub Settles : CurrentHead → HeadDelivery → DeltaReport → Type 0
Settles c held r = (t : ClaimAttempt) × (c ≡ CurrentHead.Settled (settled_of held (Some r) t)) × (t.end ≡ HeadCompletion.Settled)

unclaimed_settles : (u : UnsettledHead) (e : Epoch) (r : DeltaReport) (t : HeadCompletion) → u.attempt.end ≡ t → OpenOrAbandoned t → Settles (settled_head (CurrentHead.Unclaimed u) e r) u.delivery r
unfolding settled_head is_abandoned publish first_end settled
unclaimed_settles u e r HeadCompletion.Open q o = rw q (_, refl, refl)
unclaimed_settles u e r HeadCompletion.Settled q o = absurd o
unclaimed_settles u e r HeadCompletion.Superseded q o = absurd o
unclaimed_settles u e r HeadCompletion.Abandoned q o = rw q (_, refl, refl)

preparing_settles : (u : UnsettledHead) (e : Epoch) (r : DeltaReport) → u.attempt.end ≡ HeadCompletion.Open → Settles (settled_head (CurrentHead.Preparing u) e r) u.delivery r
unfolding settled_head publish first_end
preparing_settles u e r q = rw q (_, refl, refl)

module _ (l : HeadLifecycle) (v : Ordered l) (held : HeadDelivery) (elsewhere : holds (slot_anchor l.installed) held.anchor ≡ false) where
  pub head_settles : (c : CurrentHead) → l.current ≡ c → delivery c ≡ Some held → (e : Epoch) (r : DeltaReport) → Settles (settled_head c e r) held r
  unfolding delivery minted
  head_settles CurrentHead.Absent q h e r = nothing_held h
  head_settles (CurrentHead.Unclaimed u) q h e r = subst (λ z. Settles (settled_head (CurrentHead.Unclaimed u) e r) z r) (held_same h) (unclaimed_settles u e r u.attempt.end refl (rw q at v.unclaimed_end))
  head_settles (CurrentHead.Preparing u) q h e r =
      let t : u.attempt ≡ minted l.claim_epoch = rw q at v.preparing_attempt in
      subst (λ z. Settles (settled_head (CurrentHead.Preparing u) e r) z r) (held_same h) (preparing_settles u e r (rw t refl))
  head_settles (CurrentHead.Settled s) q h e r = true_false (same_holds _ _ ((rw q at v.settled_installed) ∙ ap (λ z. Some z.anchor) (held_same h))) elsewhere

  seq_held : (c : CurrentHead) → l.current ≡ c → delivery c ≡ Some held → held.seq ≡ l.seq
  seq_held c q h = rw (q, h) at v.seq_current

  ordered_settled : (p : Hash) (skip : BalSkip) (carried handle report : ℕ) → delivery l.current ≡ Some held
      → Ordered (record_settle l held (apply_prepared (slot_anchor l.installed) held.anchor p skip carried) handle report)
  unfolding record_settle delivery current_report
  ordered_settled p skip carried handle report h =
      let o = apply_prepared (slot_anchor l.installed) held.anchor p skip carried in
      let s = head_settles l.current refl h (settling_epoch l) (report_of o report) in
      let f : FromApply (settled_readiness o) = unfold apply_prepared in outcome_faulty (classify_link (slot_anchor l.installed) held.anchor p) skip carried in
      rw s.1 (record {
        seq_delivered = unfold raise in v.seq_delivered;
        seq_current = seq_held l.current refl h;
        preparing_attempt = tt;
        settled_end = s.2;
        settled_installed = unfold slot_anchor in refl;
        unsettled_elsewhere = tt;
        unclaimed_end = tt;
        absent_rest = tt;
        previous_below =
            applied_below l.installed
            (record { anchor = held.anchor; handle = handle; seq = held.seq; readiness = settled_readiness o })
            p skip carried;
        installed_readiness = f;
        previous_readiness = previous_kept (λ g. FromApply g.readiness) l.installed o v.installed_readiness;
        report_readiness = f;
        report_installed = refl;
        preparing_epoch = tt;
        abandoned_epoch = tt;
        installed_number = seq_at_most held.seq l.seq (seq_held l.current refl h);
        previous_number = previous_kept (NumberAtMost l.seq.0) l.installed o v.installed_number;
      })

-- every call

ordered_move : {d e : Driver} {c : Call} → Move d c e → Ordered d.life → Ordered e.life
unfolding with_life counted put moved
ordered_move Move.none v = v
ordered_move {d} (Move.counts k e) v = ordered_stats d.life _ e v
ordered_move (Move.frees n m) v = ordered_move m v
ordered_move (Move.parks n a e) v = v
ordered_move {d} (Move.delivers a p cold) v = ordered_delivered d.life v _ a p cold refl
ordered_move {d} (Move.claims u q) v = ordered_claimed d.life v u q
ordered_move {d} (Move.releases u q) v = ordered_released d.life v u q
ordered_move {d} (Move.settles ticket list handle carried report held q e) v = ordered_settled d.life v held e held.parent_hash list.skip carried handle report q

pub ordered_step : (d : Driver) (c : Call) → Ordered d.life → Ordered (step d c).driver.life
ordered_step d c v = ordered_move (step_move d c) v
