-- Document 01, "Lifecycle": "`claim`: epoch plus 1, unclaimed becomes preparing, with a new open attempt of that epoch." And "Turned away
-- by the state": "Claim tests 11, 13, 14." The Rust: `HeadLifecycle::claim`, of head_lifecycle.rs.
use Rattle.std.specs.Prelude.{Option, None, Some, Result, Ok, Err, cond, not, ◌||◌}
use Rattle.head_values.specs.Anchors.{holds}
use Rattle.head_count.specs.Counters.{next_epoch}
use Rattle.head_count.specs.declared.Epoch.{Epoch}
use Rattle.head_ready.specs.Generations.{slot_anchor}
use Rattle.head_ready.specs.Refusals.{refused_11, refused_13, refused_14}
use Rattle.head_ready.specs.declared.HeadOutcome.{HeadOutcome}
use Rattle.head_current.specs.Heads.{delivery, is_preparing, is_settled, has_ticket}
use Rattle.head_current.specs.Moves.{claimed_head}
use Rattle.head_current.specs.declared.HeadDelivery.{HeadDelivery}
use Rattle.head_current.specs.declared.HeadTicket.{HeadTicket}
use Rattle.head_life.specs.declared.HeadLifecycle.{HeadLifecycle}

-- the tests by the current head's delivery, first that applies, and what
-- the claim does where none turns it away; a refusal changes nothing
unfoldable pub claim_held : Option HeadDelivery → HeadLifecycle → HeadTicket → HeadLifecycle × Result Epoch HeadOutcome
-- 11 superseded: no current head (names the ticket's anchor),
claim_held None l ticket = (l, Err (refused_11 ticket.anchor))
claim_held (Some held) l ticket =
    -- or ticket's anchor or seq is not the current head's (names the current anchor)
    cond (not (has_ticket held ticket)) (l, Err (refused_11 held.anchor))
    -- 13 already settled: the head is installed; and, as the Rust asks too, where it is settled
    -- (`ClaimsInstalled`, of `rules`: in every driver that lines bring the two are one)
    (cond (holds (slot_anchor l.installed) held.anchor || is_settled l.current) (l, Err refused_13)
    -- 14 in flight: preparing
    (cond (is_preparing l.current) (l, Err refused_14)
    -- epoch plus 1, unclaimed becomes preparing, with a new open attempt of that epoch
    (
      record {
        current = claimed_head l.current (next_epoch l.claim_epoch);
        superseded = l.superseded;
        installed = l.installed;
        previous = l.previous;
        seq = l.seq;
        claim_epoch = next_epoch l.claim_epoch;
        stats = l.stats;
      },
      Ok (next_epoch l.claim_epoch),
    )))

-- the next lifecycle, and the epoch that is claimed or the outcome that says why none is: `HeadLifecycle::claim`
unfoldable pub claim_life : HeadLifecycle → HeadTicket → HeadLifecycle × Result Epoch HeadOutcome
claim_life l ticket = claim_held (delivery l.current) l ticket
