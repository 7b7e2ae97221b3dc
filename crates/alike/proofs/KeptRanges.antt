-- Every call that a line can write keeps the ranges: no number of a driver outgrows 64 bits.
use Rattle.std.proofs.lemmas.Bool.{cond_both}
use Rattle.std.specs.Prelude.{Option, Some, ◌&&◌}
use Rattle.head_ready.specs.declared.Generation.{Generation}
use Rattle.head_current.specs.declared.DeltaReport.{DeltaReport}
use Prim.Native.Nat.{ℕ}
use mathlib.Core.Bool.{Bool}
use mathlib.Core.Path.{◌≡◌, ◌∙◌}
use lib.Dec.{lit<}
use lib.ListN.{length-set}
use Rattle.head_values.specs.Anchors.{holds}
use Rattle.head_values.specs.Links.{classify_link}
use Rattle.head_values.specs.Lists.{apply_prepared, is_linked, is_decoded, outcome}
use Rattle.head_attempt.specs.Attempts.{minted, publish, settled}
use Rattle.head_count.specs.Counters.{next_epoch, next_seq, raise, raise_if}
use Rattle.head_attempt.specs.Waiters.{slot_of}
use Rattle.head_current.specs.Heads.{delivery, is_unsettled}
use Rattle.head_current.specs.Moves.{settled_head, claimed_head}
use Rattle.head_life.specs.Apply.{record_settle, previous_after, settled_readiness}
use Rattle.head_driver.specs.Moved.{moved}
use Rattle.head_driver.specs.Parts.{with_life}
use Rattle.head_ready.specs.Generations.{slot_anchor}
use Rattle.head_life.specs.State.{counted}
use Rattle.head_step.specs.Steps.{step}
use Rattle.head_waits.specs.Parts.{put}
use Rattle.hash.specs.declared.Hash.{Hash}
use Rattle.head_values.specs.declared.BalSkip.{BalSkip}
use Rattle.head_values.specs.declared.CarryOutcome.{CarryOutcome}
use Rattle.head_values.specs.declared.ReadAnchor.{ReadAnchor}
use Rattle.head_count.specs.declared.Counter.{Counter}
use Rattle.head_count.specs.declared.Epoch.{Epoch}
use Rattle.head_attempt.specs.declared.HeadCompletion.{HeadCompletion}
use Rattle.head_count.specs.declared.HeadStats.{HeadStats}
use Rattle.head_attempt.specs.declared.Waiter.{Waiter}
use Rattle.head_current.specs.declared.CurrentHead.{CurrentHead}
use Rattle.head_current.specs.declared.HeadDelivery.{HeadDelivery}
use Rattle.head_driver.specs.declared.Driver.{Driver}
use Rattle.head_life.specs.declared.HeadLifecycle.{HeadLifecycle}
use Rattle.head_call.specs.declared.Call.{Call}
use Rattle.alike.proofs.KeptOrder.{held_same, nothing_held}
use Rattle.alike.proofs.Moves.{Move, step_move}
use Rattle.alike.proofs.Tests.{up_fits}
use Rattle.alike.proofs.Waking.{set_fits, woken_fit, woken_length}
use Rattle.head_values.specs.Ranges.{AnchorFits, OutcomeFits, SkipFits, SlotFits}
use Rattle.head_current.specs.Ranges.{DeliveryFits, HeadFits, ReportFits, UnsettledFits}
use Rattle.alike.specs.Ranges.{DriverFits, LifeFits, WaiterFits}
use Rattle.hash.specs.Ranges.{Fits, HashFits}
use Rattle.head_ready.specs.Ranges.{GenerationSlotFits, ReadinessFits}
use Rattle.head_count.specs.Ranges.{StatsFit}
use Rattle.head_call.specs.Ranges.{Writable}
use Rattle.head_current.specs.Parts.{report_of}
use Rattle.head_life.specs.Apply.{settling_epoch}
use Rattle.head_life.specs.Deliver.{new_head}
use Rattle.head_current.specs.Moves.{is_abandoned, published_abandonment}
use Rattle.head_attempt.specs.declared.ClaimAttempt.{ClaimAttempt}
use Rattle.head_current.specs.declared.UnsettledHead.{UnsettledHead}
use Rattle.alike.proofs.Nexts.{abandoned_head, claimed_at, count_delivery, delivered_at, released_at, replaced}
use Rattle.head_current.specs.Heads.{anchor_of}

-- counters

raise_fits : (k : Counter) (s : HeadStats) → StatsFit s → StatsFit (raise k s)
unfolding raise
raise_fits Counter.Delivered s f = (up_fits _ f.0, f.1, f.2, f.3, f.4, f.5, f.6, f.7)
raise_fits Counter.Repeated s f = (f.0, up_fits _ f.1, f.2, f.3, f.4, f.5, f.6, f.7)
raise_fits Counter.Superseded s f = (f.0, f.1, up_fits _ f.2, f.3, f.4, f.5, f.6, f.7)
raise_fits Counter.Settled s f = (f.0, f.1, f.2, up_fits _ f.3, f.4, f.5, f.6, f.7)
raise_fits Counter.AlreadyCurrent s f = (f.0, f.1, f.2, f.3, up_fits _ f.4, f.5, f.6, f.7)
raise_fits Counter.Discarded s f = (f.0, f.1, f.2, f.3, f.4, up_fits _ f.5, f.6, f.7)
raise_fits Counter.ReadyViews s f = (f.0, f.1, f.2, f.3, f.4, f.5, up_fits _ f.6, f.7)
raise_fits Counter.ColdViews s f = (f.0, f.1, f.2, f.3, f.4, f.5, f.6, up_fits _ f.7)

raise_if_fits : (t : Bool) (k : Counter) (s : HeadStats) → StatsFit s → StatsFit (raise_if t k s)
unfolding raise_if
raise_if_fits t k s f = cond_both t _ _ StatsFit (λ e. raise_fits k s f) (λ e. f)

count_fits : (installed unsettled : Bool) (s : HeadStats) → StatsFit s → StatsFit (count_delivery installed unsettled s)
count_fits installed unsettled s f = raise_if_fits installed Counter.AlreadyCurrent _ (raise_fits Counter.Delivered _ (raise_if_fits unsettled Counter.Superseded s f))

-- deliver

new_head_fits : (installed : Bool) (held : HeadDelivery) (cold : ℕ) → DeliveryFits held → Fits cold → HeadFits (new_head installed held cold)
unfolding new_head minted settled
new_head_fits installed held cold f g = cond_both installed _ _ HeadFits (λ e. record { delivery = f; report = tt; epoch = lit< tt }) (λ e. record { delivery = f; provisional = g; epoch = lit< tt })

replaced_fits : (c : CurrentHead) (s : Option ReadAnchor) → HeadFits c → SlotFits s → SlotFits (replaced (anchor_of (delivery c)) s)
unfolding anchor_of delivery
replaced_fits CurrentHead.Absent s f g = g
replaced_fits (CurrentHead.Unclaimed u) s f g = f.delivery.anchor
replaced_fits (CurrentHead.Preparing u) s f g = f.delivery.anchor
replaced_fits (CurrentHead.Settled h) s f g = f.delivery.anchor

-- claim, release and apply

claimed_fits : (c : CurrentHead) (e : Epoch) → HeadFits c → Fits e.0 → HeadFits (claimed_head c e)
unfolding claimed_head minted
claimed_fits CurrentHead.Absent e f g = f
claimed_fits (CurrentHead.Unclaimed u) e f g = record { delivery = f.delivery; provisional = f.provisional; epoch = g }
claimed_fits (CurrentHead.Preparing u) e f g = f
claimed_fits (CurrentHead.Settled s) e f g = f

released_fits : (u : UnsettledHead) → UnsettledFits u → HeadFits (abandoned_head u)
unfolding publish
released_fits u f = record { delivery = f.delivery; provisional = f.provisional; epoch = f.epoch }

settled_fits : (c : CurrentHead) (e : Epoch) (r : DeltaReport) → HeadFits c → Fits e.0 → ReportFits (Some r) → HeadFits (settled_head c e r)
unfolding settled_head publish settled
settled_fits CurrentHead.Absent e r f g h = f
settled_fits (CurrentHead.Unclaimed u) e r f g h = record { delivery = f.delivery; report = h; epoch = cond_both (is_abandoned u.attempt.end) _ _ (λ (t : ClaimAttempt). Fits t.epoch.0) (λ z. g) (λ z. f.epoch) }
settled_fits (CurrentHead.Preparing u) e r f g h = record { delivery = f.delivery; report = h; epoch = f.epoch }
settled_fits (CurrentHead.Settled s) e r f g h = record { delivery = f.delivery; report = h; epoch = f.epoch }

next_epoch_fits : (e : Epoch) → Fits e.0 → Fits (next_epoch e).0
unfolding next_epoch
next_epoch_fits e f = up_fits e.0 f

settling_fits : (l : HeadLifecycle) → Fits l.claim_epoch.0 → Fits (settling_epoch l).0
unfolding settling_epoch
settling_fits l f = cond_both (published_abandonment l.current) _ _ (λ (x : Epoch). Fits x.0) (λ z. next_epoch_fits l.claim_epoch f) (λ z. f)

pub outcome_fits : (i : Option ReadAnchor) (a : ReadAnchor) (p : Hash) (skip : BalSkip) (carried : ℕ) → SkipFits skip → Fits carried → OutcomeFits (apply_prepared i a p skip carried)
unfolding apply_prepared outcome
outcome_fits i a p skip carried f g = cond_both (is_linked (classify_link i a p) && is_decoded skip) _ _ OutcomeFits (λ e. g) (λ e. f)

readiness_fits : (o : CarryOutcome) → OutcomeFits o → ReadinessFits (settled_readiness o)
unfolding settled_readiness
readiness_fits (CarryOutcome.Carried n) f = tt
readiness_fits (CarryOutcome.Cold link skip) f = f

previous_fits : (i : Option Generation) (o : CarryOutcome) → GenerationSlotFits i → GenerationSlotFits (previous_after i o)
unfolding previous_after
previous_fits i (CarryOutcome.Carried n) f = f
previous_fits i (CarryOutcome.Cold link skip) f = tt

pub held_fits : (c : CurrentHead) (held : HeadDelivery) → delivery c ≡ Some held → HeadFits c → DeliveryFits held
unfolding delivery
held_fits CurrentHead.Absent held q f = nothing_held q
held_fits (CurrentHead.Unclaimed u) held q f = rw (held_same q) at f.delivery
held_fits (CurrentHead.Preparing u) held q f = rw (held_same q) at f.delivery
held_fits (CurrentHead.Settled s) held q f = rw (held_same q) at f.delivery

-- the lifecycle

module _ (l : HeadLifecycle) (f : LifeFits l) where
  counted_fits : (k : Counter) → LifeFits (counted l k)
  unfolding counted
  counted_fits k = record { current = f.current; superseded = f.superseded; installed = f.installed; previous = f.previous; seq = f.seq; epoch = f.epoch; stats = raise_fits k l.stats f.stats }

  delivered_fits : (a : ReadAnchor) (p : Hash) (cold : ℕ) → AnchorFits a → HashFits p → Fits cold → LifeFits (delivered_at (holds (slot_anchor l.installed) a) l a p cold)
  unfolding next_seq
  delivered_fits a p cold x y z =
      let n = up_fits l.seq.0 f.seq in
      record {
        current = new_head_fits (holds (slot_anchor l.installed) a) _ cold (record { anchor = x; parent_hash = y; seq = n }) z;
        superseded = replaced_fits l.current l.superseded f.current f.superseded;
        installed = f.installed;
        previous = f.previous;
        seq = n;
        epoch = f.epoch;
        stats = count_fits (holds (slot_anchor l.installed) a) (is_unsettled l.current) l.stats f.stats;
      }

  claimed_life_fits : LifeFits (claimed_at l)
  claimed_life_fits =
      let e = next_epoch_fits l.claim_epoch f.epoch in
      record { current = claimed_fits l.current _ f.current e; superseded = f.superseded; installed = f.installed; previous = f.previous; seq = f.seq; epoch = e; stats = f.stats }

  released_life_fits : (u : UnsettledHead) → UnsettledFits u → LifeFits (released_at l u)
  released_life_fits u g = record { current = released_fits u g; superseded = f.superseded; installed = f.installed; previous = f.previous; seq = f.seq; epoch = f.epoch; stats = f.stats }

  settled_life_fits : (held : HeadDelivery) (o : CarryOutcome) (handle report : ℕ)
      → DeliveryFits held → OutcomeFits o → Fits handle → Fits report → LifeFits (record_settle l held o handle report)
  unfolding record_settle
  settled_life_fits held o handle report x y h r =
      let e = settling_fits l f.epoch in
      record {
        current = settled_fits l.current _ (report_of o report) f.current e (y, r);
        superseded = f.superseded;
        installed = record { anchor = x.anchor; handle = h; seq = x.seq; readiness = readiness_fits o y };
        previous = previous_fits l.installed o f.installed;
        seq = f.seq;
        epoch = e;
        stats = raise_fits Counter.Settled l.stats f.stats;
      }

-- every call

moved_fits : (d : Driver) (l : HeadLifecycle) (t : HeadCompletion) → DriverFits d → LifeFits l → DriverFits (moved d l t)
unfolding moved
moved_fits d l t f g = record { life = g; waiters = woken_fit t d.life.current l.current d.waiters f.life.current f.waiters; sixteen = woken_length t d.life.current l.current d.waiters ∙ f.sixteen }

with_life_fits : (d : Driver) (l : HeadLifecycle) → DriverFits d → LifeFits l → DriverFits (with_life d l)
unfolding with_life
with_life_fits d l f g = record { life = g; waiters = f.waiters; sixteen = f.sixteen }

put_fits : (d : Driver) (n : ℕ) (w : Waiter) → WaiterFits w → DriverFits d → DriverFits (put d n w)
unfolding put
put_fits d n w g f = record { life = f.life; waiters = set_fits d.waiters n w g f.waiters; sixteen = length-set d.waiters n (slot_of w) ∙ f.sixteen }

fits_move : {d e : Driver} {c : Call} → Move d c e → Writable c → DriverFits d → DriverFits e
fits_move Move.none r f = f
fits_move {d} (Move.counts k e) r f = with_life_fits d _ f (counted_fits d.life f.life k)
fits_move (Move.frees n m) r f = put_fits _ n Waiter.Free tt (fits_move m r f)
fits_move {d} (Move.parks n a e) r f = put_fits d n Waiter.Parked tt f
fits_move {d} (Move.delivers a p cold) r f = moved_fits d _ _ f (delivered_fits d.life f.life a p cold r.0 r.1 r.2)
fits_move {d} (Move.claims u q) r f = with_life_fits d _ f (claimed_life_fits d.life f.life)
fits_move {d} (Move.releases u q) r f = moved_fits d _ _ f (released_life_fits d.life f.life u (rw q at f.life.current))
fits_move {d} (Move.settles ticket list handle carried report held q e) r f = moved_fits d _ _ f
    (settled_life_fits d.life f.life held _ handle report (held_fits d.life.current held q f.life.current)
    (outcome_fits _ _ _ list.skip carried r.3 r.5) r.4 r.6)

pub fits_step : (d : Driver) (c : Call) → Writable c → DriverFits d → DriverFits (step d c).driver
fits_step d c r f = fits_move (step_move d c) r f
