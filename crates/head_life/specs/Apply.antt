-- Document 01, "Lifecycle", and document 02, Job 1: what an `apply` does; "Turned away by the state": "Apply tests 2, 11, 12, 13." (2,
-- which the list alone decides, stands in `head_calls/specs/Apply`.) The Rust: `HeadLifecycle::plan_apply`,
-- `record_settle` and `settle_current`, and `settled_readiness`, of head_lifecycle.rs.
use Rattle.std.specs.Prelude.{ℕ, Option, None, Some, cond, not}
use Rattle.head_values.specs.Anchors.{holds, same_anchor}
use Rattle.head_values.specs.declared.CarryOutcome.{CarryOutcome}
use Rattle.head_values.specs.declared.ReadAnchor.{ReadAnchor}
use Rattle.head_count.specs.Counters.{next_epoch, raise}
use Rattle.head_count.specs.declared.Counter.{Counter}
use Rattle.head_count.specs.declared.Epoch.{Epoch}
use Rattle.head_ready.specs.Generations.{slot_anchor}
use Rattle.head_ready.specs.Refusals.{refused_11, refused_12, refused_13}
use Rattle.head_ready.specs.declared.Generation.{Generation}
use Rattle.head_ready.specs.declared.HeadCold.{HeadCold}
use Rattle.head_ready.specs.declared.HeadReadiness.{HeadReadiness}
use Rattle.head_current.specs.Heads.{delivery, has_ticket}
use Rattle.head_current.specs.Moves.{published_abandonment, settled_head}
use Rattle.head_current.specs.declared.HeadDelivery.{HeadDelivery}
use Rattle.head_current.specs.declared.HeadTicket.{HeadTicket}
use Rattle.head_life.specs.State.{counted}
use Rattle.head_life.specs.declared.ApplyPlan.{ApplyPlan}
use Rattle.head_life.specs.declared.HeadLifecycle.{HeadLifecycle}

-- the tests by the current head's delivery, first that applies; "Apply's
-- 11 and 12 add 1 to discarded; nothing else changes in any refusal."
unfoldable pub plan_held : Option HeadDelivery → HeadLifecycle → HeadTicket → ReadAnchor → HeadLifecycle × ApplyPlan
-- 11 superseded: no current head (names the ticket's anchor),
plan_held None l ticket list = (counted l Counter.Discarded, ApplyPlan.Refused (refused_11 ticket.anchor))
plan_held (Some held) l ticket list =
    -- or ticket's anchor or seq is not the current head's (names the current anchor)
    cond (not (has_ticket held ticket)) (counted l Counter.Discarded, ApplyPlan.Refused (refused_11 held.anchor))
    -- 12 foreign: the list's anchor is not the head's; names both
    (cond (not (same_anchor list held.anchor)) (counted l Counter.Discarded, ApplyPlan.Refused (refused_12 list held.anchor))
    -- 13 already settled: the head is installed
    (cond (holds (slot_anchor l.installed) held.anchor) (l, ApplyPlan.Refused refused_13)
    -- "takes unclaimed and preparing heads alike"
    (l, ApplyPlan.Admitted held)))

-- the next lifecycle, and what the apply goes on with: `HeadLifecycle::plan_apply`
unfoldable pub plan_apply : HeadLifecycle → HeadTicket → ReadAnchor → HeadLifecycle × ApplyPlan
plan_apply l ticket list = plan_held (delivery l.current) l ticket list

-- "Carried makes the installed generation the previous one, readiness included; cold empties previous." Job 1: its number too.
unfoldable pub previous_after : Option Generation → CarryOutcome → Option Generation
previous_after installed (CarryOutcome.Carried c) = installed
previous_after installed (CarryOutcome.Cold link skip) = None

-- "The new one is installed, ready if carried", else cold with a reason that "for a settled head holds link and skip": `settled_readiness`
unfoldable pub settled_readiness : CarryOutcome → HeadReadiness
settled_readiness (CarryOutcome.Carried c) = HeadReadiness.Ready
settled_readiness (CarryOutcome.Cold link skip) = HeadReadiness.Cold (HeadCold.Settled link skip)

-- "An unclaimed head whose attempt was abandoned gets a new attempt, ..: epoch plus 1." `HeadLifecycle::publish_settle`
unfoldable pub settling_epoch : HeadLifecycle → Epoch
settling_epoch l = cond (published_abandonment l.current) (next_epoch l.claim_epoch) l.claim_epoch

-- the lifecycle after an apply to that head which nothing turns away: `HeadLifecycle::record_settle` and `settle_current`
unfoldable pub record_settle : HeadLifecycle → HeadDelivery → CarryOutcome → ℕ → ℕ → HeadLifecycle
record_settle l held o handle report = record {
  -- "Settled plus 1."
  stats = raise Counter.Settled l.stats;
  -- "The head becomes settled, keeps this outcome and REPORT, and its open attempt ends settled."
  current = settled_head l.current (settling_epoch l) (record { outcome = o; number = report });
  -- "Carried makes the installed generation the previous one ..; cold empties previous."
  previous = previous_after l.installed o;
  -- "The new one is installed, ready if carried." Job 1: it keeps "the delivery number under which" it settled
  installed = Some (record { anchor = held.anchor; handle = handle; seq = held.seq; readiness = settled_readiness o });
  -- "An unclaimed head whose attempt was abandoned gets a new attempt, ..: epoch plus 1."
  claim_epoch = settling_epoch l;
  -- and the rest as it was
  superseded = l.superseded;
  seq = l.seq;
}
