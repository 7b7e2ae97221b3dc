-- Document 01, "The sheet": what of a driver its sheet shows. `canon d` is a driver that holds just this, and beside it only what this implies.
use Rattle.head_ready.specs.declared.Generation.{Generation}
use Rattle.std.specs.Prelude.{ℕ, Bool, List, map, Option, None, Some, cond, ◌&&◌, ◌||◌}
use Rattle.head_values.specs.Anchors.{holds}
use Rattle.head_attempt.specs.Attempts.{minted, settled}
use Rattle.head_count.specs.Counters.{epoch_of, seq_of}
use Rattle.head_attempt.specs.Waiters.{slot_of}
use Rattle.head_current.specs.Heads.{anchor_of, delivery, is_settled}
use Rattle.head_current.specs.Parts.{delivery_of}
use Rattle.head_ready.specs.Generations.{slot_anchor}
use Rattle.head_values.specs.declared.ReadAnchor.{ReadAnchor}
use Rattle.head_count.specs.declared.Epoch.{Epoch}
use Rattle.head_attempt.specs.declared.Waiter.{Waiter}
use Rattle.head_attempt.specs.declared.WaiterSlot.{WaiterSlot}
use Rattle.head_current.specs.declared.CurrentHead.{CurrentHead}
use Rattle.head_current.specs.declared.HeadDelivery.{HeadDelivery}
use Rattle.head_driver.specs.declared.Driver.{Driver}
use Rattle.head_life.specs.declared.HeadLifecycle.{HeadLifecycle}

-- it is the current anchor, or the current head is settled and it is the previous anchor
unfoldable pub masked : CurrentHead → Option Generation → ReadAnchor → Bool
masked c previous a = holds (anchor_of (delivery c)) a || (is_settled c && holds (slot_anchor previous) a)

unfoldable pub mask_by : (ReadAnchor → Bool) → Option ReadAnchor → Option ReadAnchor
mask_by hides None = None
mask_by hides (Some a) = cond (hides a) None (Some a)

-- `(superseded A)`: the superseded anchor is written `none` when it is the current anchor, or when the current head is settled and it is the previous anchor
unfoldable pub shown_superseded : CurrentHead → Option Generation → Option ReadAnchor → Option ReadAnchor
shown_superseded c previous superseded = mask_by (masked c previous) superseded

-- anchor and parent hash are written, and its seq is delivered
abbrev pub shown_delivery : ℕ → HeadDelivery → HeadDelivery
shown_delivery delivered held = delivery_of held.anchor held.parent_hash (seq_of delivered)

-- `(current unclaimed A P H open)` (or `abandoned`), `(current preparing A P H)`, `(current settled A P R)`. Attempt epochs are not written: a preparing head's is the epoch of the
-- count line, and any other's is 0 here. A preparing head's attempt is open, a settled head's ended settled.
unfoldable pub shown_head : ℕ → Epoch → CurrentHead → CurrentHead
shown_head delivered epoch CurrentHead.Absent = CurrentHead.Absent
shown_head delivered epoch (CurrentHead.Unclaimed u) = CurrentHead.Unclaimed (record {
  delivery = shown_delivery delivered u.delivery;
  provisional = u.provisional;
  attempt = record { epoch = epoch_of 0; end = u.attempt.end };
})
shown_head delivered epoch (CurrentHead.Preparing u) = CurrentHead.Preparing (record { delivery = shown_delivery delivered u.delivery; provisional = u.provisional; attempt = minted epoch })
shown_head delivered epoch (CurrentHead.Settled s) = CurrentHead.Settled (record { delivery = shown_delivery delivered s.delivery; report = s.report; attempt = settled (epoch_of 0) })

-- `(wait N parked)`, `(wait N abandoned A)` or `(wait N ended A)`; a free waiter is not written
unfoldable pub shown_waiter : Waiter → Waiter
shown_waiter Waiter.Free = Waiter.Free
shown_waiter Waiter.Parked = Waiter.Parked
shown_waiter (Waiter.Abandoned a) = Waiter.Abandoned a
shown_waiter (Waiter.Ended a) = Waiter.Ended a

unfoldable pub shown_waiters : List WaiterSlot → List WaiterSlot
shown_waiters ws = map (λ s. slot_of (shown_waiter s.waiter)) ws

-- Count (eight counters, then epoch); current; superseded; installed; previous. Seq is not written: it is delivered.
unfoldable pub shown_life : HeadLifecycle → HeadLifecycle
shown_life l = record {
  current = shown_head l.stats.delivered l.claim_epoch l.current;
  superseded = shown_superseded l.current l.previous l.superseded;
  installed = l.installed;
  previous = l.previous;
  seq = seq_of l.stats.delivered;
  claim_epoch = l.claim_epoch;
  stats = l.stats;
}

-- these, and each waiter
unfoldable pub canon : Driver → Driver
canon d = record { life = shown_life d.life; waiters = shown_waiters d.waiters }
