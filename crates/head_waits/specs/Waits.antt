-- Document 01, "The sixteen waiters": "`wait` parks it if the current head is preparing at that anchor, else answers a view at once,
-- `unprepared` shown as `abandoned`." "`resume`: parked stays parked. After an abandonment the answer is the snapshot with reason
-- `abandoned`; if that snapshot was ready, the spare handle is given with source `spare`, yet ready-views rises. After another end, as
-- `wait` anew. A view frees the number." "Turned away": "Wait tests 3, 15; resume 3, 16." The Rust: `BalHeadDriver::wait_for_head`,
-- `abandoned_view` and `HeadLifecycle::registration`, of head_lifecycle.rs.
use Rattle.std.specs.Prelude.{ℕ, ltb, cond}
use Rattle.head_values.specs.declared.ReadAnchor.{ReadAnchor}
use Rattle.head_attempt.specs.declared.Waiter.{Waiter}
use Rattle.head_ready.specs.Generations.{is_ready, view_of}
use Rattle.head_ready.specs.declared.HeadCold.{HeadCold}
use Rattle.head_ready.specs.declared.HeadReadiness.{HeadReadiness}
use Rattle.head_ready.specs.declared.HeadView.{HeadView}
use Rattle.head_ready.specs.declared.Source.{Source}
use Rattle.head_current.specs.Heads.{preparing_at}
use Rattle.head_life.specs.Views.{view}
use Rattle.head_driver.specs.Parts.{reply_of}
use Rattle.head_driver.specs.declared.Answer.{Answer}
use Rattle.head_driver.specs.declared.Driver.{Driver}
use Rattle.head_driver.specs.declared.Reply.{Reply}
use Rattle.head_waits.specs.Parts.{put, waiter_at}
use Rattle.head_waits.specs.Snapshot.{viewed}

-- "`unprepared` shown as `abandoned`"
unfoldable pub readiness_by_wait : HeadReadiness → HeadReadiness
readiness_by_wait HeadReadiness.Ready = HeadReadiness.Ready
readiness_by_wait (HeadReadiness.Cold HeadCold.Unprepared) = HeadReadiness.Cold HeadCold.Abandoned
readiness_by_wait (HeadReadiness.Cold HeadCold.Superseded) = HeadReadiness.Cold HeadCold.Superseded
readiness_by_wait (HeadReadiness.Cold HeadCold.Undelivered) = HeadReadiness.Cold HeadCold.Undelivered
readiness_by_wait (HeadReadiness.Cold HeadCold.Abandoned) = HeadReadiness.Cold HeadCold.Abandoned
readiness_by_wait (HeadReadiness.Cold (HeadCold.Settled link skip)) = HeadReadiness.Cold (HeadCold.Settled link skip)

-- the same of a view, its source and its handle as they are
unfoldable pub shown_by_wait : HeadView → HeadView
shown_by_wait v = view_of v.source v.handle (readiness_by_wait v.readiness)

-- "A view frees the number."
unfoldable pub view_frees : Driver → ℕ → HeadView → HeadView → Reply
view_frees d n v shown = viewed (put d n Waiter.Free) v shown

-- "`wait` parks it if the current head is preparing at that anchor, else answers a view at once, `unprepared` shown as `abandoned`"
unfoldable pub waits_anew : Driver → ℕ → ReadAnchor → ℕ → Reply
waits_anew d n a spare =
    cond (preparing_at d.life.current a)
    (reply_of (put d n Waiter.Parked) Answer.Parked)
    (view_frees d n (view d.life a spare) (shown_by_wait (view d.life a spare)))

-- "the snapshot with reason `abandoned`; if that snapshot was ready, the spare handle is given with source `spare`": `abandoned_view`.
-- Where the source stays, so does its settle number (document 02, Job 1); `spare` has none.
unfoldable pub abandoned_view : HeadView → ℕ → HeadView
abandoned_view v spare =
    cond (is_ready v.readiness)
    (view_of Source.Spare spare (HeadReadiness.Cold HeadCold.Abandoned))
    (view_of v.source v.handle (HeadReadiness.Cold HeadCold.Abandoned))

-- "`wait` parks it .., else answers a view at once", where the waiter of that number is free
unfoldable pub wait_as : Driver → ℕ → ReadAnchor → ℕ → Waiter → Reply
wait_as d n a spare Waiter.Free = waits_anew d n a spare
-- 15 waiter not free
wait_as d n a spare Waiter.Parked = reply_of d Answer.WaiterNotFree
wait_as d n a spare (Waiter.Abandoned b) = reply_of d Answer.WaiterNotFree
wait_as d n a spare (Waiter.Ended b) = reply_of d Answer.WaiterNotFree

-- "Wait tests 3, 15"
unfoldable pub wait : Driver → ℕ → ReadAnchor → ℕ → Reply
wait d n a spare =
    -- 3 waiter number above 15
    cond (ltb 15 n) (reply_of d Answer.WaiterAbove15)
    (wait_as d n a spare (waiter_at d.waiters n))

-- "`resume`: ..", by the waiter of that number
unfoldable pub resume_as : Driver → ℕ → ℕ → Waiter → Reply
-- 16 waiter free
resume_as d n spare Waiter.Free = reply_of d Answer.WaiterFree
-- "parked stays parked"
resume_as d n spare Waiter.Parked = reply_of d Answer.Parked
-- "After an abandonment the answer is the snapshot with reason `abandoned`", .. "yet ready-views rises": the snapshot itself is counted
resume_as d n spare (Waiter.Abandoned a) = view_frees d n (view d.life a spare) (abandoned_view (view d.life a spare) spare)
-- "After another end, as `wait` anew"
resume_as d n spare (Waiter.Ended a) = waits_anew d n a spare

-- "resume 3, 16"
unfoldable pub resume : Driver → ℕ → ℕ → Reply
resume d n spare =
    -- 3 waiter number above 15
    cond (ltb 15 n) (reply_of d Answer.WaiterAbove15)
    (resume_as d n spare (waiter_at d.waiters n))
