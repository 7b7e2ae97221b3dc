-- Document 01, "Lines": "`(apply A SEQ A X H C REPORT)` `(settled OUTCOME)`, its second A the list's"; "Turned away": "Apply tests 2, 11,
-- 12, 13." What becomes of the lifecycle: `head_life/specs/Apply`. The Rust: `BalHeadDriver::apply_members`, of head_lifecycle.rs.
use Rattle.std.specs.Prelude.{ℕ, cond, not}
use Rattle.head_values.specs.Lists.{apply_prepared, as_prepared}
use Rattle.head_values.specs.declared.BalSkip.{BalSkip}
use Rattle.head_values.specs.declared.CarryOutcome.{CarryOutcome}
use Rattle.head_values.specs.declared.PreparedBal.{PreparedBal}
use Rattle.head_attempt.specs.declared.HeadCompletion.{HeadCompletion}
use Rattle.head_ready.specs.Generations.{slot_anchor}
use Rattle.head_ready.specs.declared.HeadOutcome.{HeadOutcome}
use Rattle.head_current.specs.declared.HeadDelivery.{HeadDelivery}
use Rattle.head_current.specs.declared.HeadTicket.{HeadTicket}
use Rattle.head_life.specs.Apply.{plan_apply, record_settle}
use Rattle.head_life.specs.declared.ApplyPlan.{ApplyPlan}
use Rattle.head_life.specs.declared.HeadLifecycle.{HeadLifecycle}
use Rattle.head_driver.specs.Moved.{moved}
use Rattle.head_driver.specs.Parts.{reply_of, with_life}
use Rattle.head_driver.specs.declared.Answer.{Answer}
use Rattle.head_driver.specs.declared.Driver.{Driver}
use Rattle.head_driver.specs.declared.Reply.{Reply}

-- the head settles with that outcome, and so does its preparation, if it has one
unfoldable pub apply_settled : Driver → HeadLifecycle → HeadDelivery → CarryOutcome → ℕ → ℕ → Reply
apply_settled d l held o handle report =
    reply_of (moved d (record_settle l held o handle report) HeadCompletion.Settled) (Answer.Outcome (HeadOutcome.Settled o))

-- by the plan: 11, 12 or 13, or the outcome of the link test and the skip
unfoldable pub apply_planned : Driver → HeadLifecycle → ApplyPlan → BalSkip → ℕ → ℕ → ℕ → Reply
apply_planned d l (ApplyPlan.Refused o) skip handle carried report = reply_of (with_life d l) (Answer.Outcome o)
apply_planned d l (ApplyPlan.Admitted held) skip handle carried report =
    apply_settled d l held (apply_prepared (slot_anchor l.installed) held.anchor held.parent_hash skip carried) handle report

-- "Apply tests 2, 11, 12, 13"; where none applies the head settles
unfoldable pub apply : Driver → HeadTicket → PreparedBal → ℕ → ℕ → ℕ → Reply
apply d ticket list handle carried report =
    -- 2 list and anchor disagree on `no-hash`
    cond (not (as_prepared list)) (reply_of d Answer.ListDisagrees)
    -- 11, 12, 13
    (apply_planned d (plan_apply d.life ticket list.anchor).0 (plan_apply d.life ticket list.anchor).1 list.skip handle carried report)
