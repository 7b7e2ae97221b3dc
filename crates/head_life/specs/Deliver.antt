-- Document 01, "Lifecycle": "`deliver`: same anchor and parent hash as current: repeated plus 1, old seq. Otherwise seq plus 1; a replaced
-- head's attempt ends superseded, its anchor becomes the superseded anchor, and superseded plus 1 if it was not settled. Delivered plus 1.
-- If the anchor is installed, the head is settled with no report, already-current plus 1, installed readiness kept; else unclaimed,
-- holding the cold handle given." The Rust: `HeadLifecycle::deliver`, of head_lifecycle.rs. (That the replaced head's attempt ends
-- superseded is seen by the waiters alone: `head_calls/specs/Deliver`.)
use Rattle.std.specs.Prelude.{ℕ, Bool, false, Option, None, Some, cond, ◌&&◌}
use Rattle.std.specs.Option.{option_or}
use Rattle.hash.specs.Hashes.{same_hash}
use Rattle.hash.specs.declared.Hash.{Hash}
use Rattle.head_values.specs.Anchors.{holds, same_anchor}
use Rattle.head_values.specs.declared.ReadAnchor.{ReadAnchor}
use Rattle.head_count.specs.Counters.{epoch_of, next_seq, raise, raise_if, seq_of}
use Rattle.head_count.specs.declared.Counter.{Counter}
use Rattle.head_count.specs.declared.Seq.{Seq}
use Rattle.head_attempt.specs.Attempts.{minted, settled}
use Rattle.head_ready.specs.Generations.{slot_anchor}
use Rattle.head_current.specs.Heads.{anchor_of, delivery, is_unsettled}
use Rattle.head_current.specs.declared.CurrentHead.{CurrentHead}
use Rattle.head_current.specs.declared.HeadDelivery.{HeadDelivery}
use Rattle.head_life.specs.State.{counted}
use Rattle.head_life.specs.declared.HeadLifecycle.{HeadLifecycle}

-- "same anchor and parent hash as current"
unfoldable pub repeats : Option HeadDelivery → ReadAnchor → Hash → Bool
repeats None a p = false
repeats (Some held) a p = same_anchor held.anchor a && same_hash held.parent_hash p

-- "old seq": the current head's. Where there is none nothing is repeated, and nobody asks.
unfoldable pub old_seq : Option HeadDelivery → Seq
old_seq None = seq_of 0
old_seq (Some held) = held.seq

-- "If the anchor is installed, the head is settled with no report, ..; else unclaimed, holding the cold handle given"
unfoldable pub new_head : Bool → HeadDelivery → ℕ → CurrentHead
new_head anchor_installed held cold =
    cond anchor_installed
    (CurrentHead.Settled (record { delivery = held; report = None; attempt = settled (epoch_of 0) }))
    (CurrentHead.Unclaimed (record { delivery = held; provisional = cold; attempt = minted (epoch_of 0) }))

-- the next lifecycle, and the seq of the ticket: `HeadLifecycle::deliver`
unfoldable pub deliver_life : HeadLifecycle → ReadAnchor → Hash → ℕ → HeadLifecycle × Seq
deliver_life l a p cold =
    cond (repeats (delivery l.current) a p)
    -- "same anchor and parent hash as current: repeated plus 1, old seq"
    (counted l Counter.Repeated, old_seq (delivery l.current))
    -- "Otherwise"
    (
      record {
        -- "seq plus 1"
        seq = next_seq l.seq;
        -- "a replaced head's .. anchor becomes the superseded anchor" (how its attempt ends: head_calls/specs/Deliver)
        superseded = option_or (anchor_of (delivery l.current)) l.superseded;
        -- from the inside: "superseded plus 1 if it was not settled. Delivered
        -- plus 1. If the anchor is installed, .. already-current plus 1"
        stats = raise_if (holds (slot_anchor l.installed) a) Counter.AlreadyCurrent
            (raise Counter.Delivered
            (raise_if (is_unsettled l.current) Counter.Superseded l.stats));
        -- "If the anchor is installed, the head is settled ..; else unclaimed"
        current = new_head (holds (slot_anchor l.installed) a) (record { anchor = a; parent_hash = p; seq = next_seq l.seq }) cold;
        -- "installed readiness kept"; Job 1: "A redelivery of the installed block keeps the old number."
        installed = l.installed;
        -- and the rest as it was
        previous = l.previous;
        claim_epoch = l.claim_epoch;
      },
      next_seq l.seq,
    )
