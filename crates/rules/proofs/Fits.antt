-- Every number that a call is answered with is below 2^64, and so is every word of its hashes, where the driver's and the call's own are.
use Rattle.std.proofs.lemmas.Bool.{cond_both}
use Rattle.std.specs.Prelude.{Option, None, Some, Result, Ok, Err, not, ◌||◌}
use Rattle.head_ready.specs.declared.Generation.{Generation}
use Rattle.head_ready.specs.declared.HeadOutcome.{HeadOutcome}
use Prim.Native.Nat.{ℕ}
use lib.Dec.{lit<, ltb}
use Rattle.alike.proofs.KeptRanges.{outcome_fits}
use Rattle.alike.proofs.Nexts.{claim_reply}
use Rattle.alike.proofs.Tests.{up_fits}
use Rattle.alike.specs.Ranges as A
use Rattle.head_call.specs.Ranges.{Writable}
use Rattle.answer_back.specs.Ranges.{AnswerFits, HeadOutcomeFits}
use Rattle.head_values.specs.Anchors.{holds, same_anchor}
use Rattle.head_values.specs.Lists.{as_prepared}
use Rattle.head_calls.specs.Apply.{apply, apply_planned, apply_settled}
use Rattle.head_count.specs.Counters.{next_epoch, next_seq}
use Rattle.head_current.specs.Heads.{anchor_of, delivery, has_ticket, current_report, preparing_at, is_settled, is_preparing}
use Rattle.head_life.specs.Deliver.{repeats, old_seq, deliver_life}
use Rattle.head_calls.specs.Claim.{claim, claim_answer}
use Rattle.head_calls.specs.Deliver.{deliver}
use Rattle.head_calls.specs.Release.{release}
use Rattle.head_waits.specs.Snapshot.{snapshot, viewed}
use Rattle.head_life.specs.Apply.{plan_apply, plan_held}
use Rattle.head_ready.specs.Generations.{is_ready, slot_anchor}
use Rattle.head_asks.specs.Asks.{completion, last_report, stats, heads, link}
use Rattle.head_step.specs.Steps.{step}
use Rattle.head_life.specs.Views.{current_view, generation_view, provisional_view, spare_view, view}
use Rattle.head_waits.specs.Waits.{abandoned_view, readiness_by_wait, resume, resume_as, shown_by_wait, view_frees, wait, wait_as, waits_anew}
use Rattle.head_waits.specs.Parts.{waiter_at}
use Rattle.head_ready.specs.Ranges.{ColdFits, GenerationSlotFits, ReadinessFits, SourceFits}
use Rattle.hash.specs.Ranges.{Fits}
use Rattle.head_values.specs.Ranges.{AnchorFits, SkipFits, SlotFits}
use Rattle.head_current.specs.Ranges.{DeliveryFits, HeadFits, ReportFits, UnsettledFits}
use Rattle.hash.specs.declared.Hash.{Hash}
use Rattle.head_values.specs.declared.BalSkip.{BalSkip}
use Rattle.head_values.specs.declared.ReadAnchor.{ReadAnchor}
use Rattle.head_count.specs.declared.Epoch.{Epoch}
use Rattle.head_attempt.specs.declared.Waiter.{Waiter}
use Rattle.head_current.specs.declared.CurrentHead.{CurrentHead}
use Rattle.head_current.specs.declared.HeadDelivery.{HeadDelivery}
use Rattle.head_current.specs.declared.HeadTicket.{HeadTicket}
use Rattle.head_current.specs.declared.UnsettledHead.{UnsettledHead}
use Rattle.head_driver.specs.declared.Driver.{Driver}
use Rattle.head_driver.specs.declared.Reply.{Reply}
use Rattle.head_life.specs.declared.ApplyPlan.{ApplyPlan}
use Rattle.head_ready.specs.declared.HeadCold.{HeadCold}
use Rattle.head_life.specs.declared.HeadLifecycle.{HeadLifecycle}
use Rattle.head_ready.specs.declared.HeadReadiness.{HeadReadiness}
use Rattle.head_ready.specs.declared.HeadView.{HeadView}
use Rattle.head_ready.specs.declared.Source.{Source}
use Rattle.head_call.specs.declared.Call.{Call}
use Rattle.head_life.specs.Claim.{claim_held, claim_life}
use Rattle.head_count.specs.declared.Seq.{Seq}

abbrev Replied : Reply → Type 0
Replied r = AnswerFits r.answer

-- ---- the head

abbrev HeldFits : Option HeadDelivery → Type 0
HeldFits None = Unit {0}
HeldFits (Some held) = DeliveryFits held

delivery_fits : (c : CurrentHead) → HeadFits c → HeldFits (delivery c)
unfolding delivery
delivery_fits CurrentHead.Absent f = tt
delivery_fits (CurrentHead.Unclaimed u) f = f.delivery
delivery_fits (CurrentHead.Preparing u) f = f.delivery
delivery_fits (CurrentHead.Settled s) f = f.delivery

current_fits : (s : Option HeadDelivery) → HeldFits s → SlotFits (anchor_of s)
unfolding anchor_of
current_fits None f = tt
current_fits (Some held) f = f.anchor

slot_fits : (g : Option Generation) → GenerationSlotFits g → SlotFits (slot_anchor g)
unfolding slot_anchor
slot_fits None f = tt
slot_fits (Some g) f = f.anchor

current_report_fits : (c : CurrentHead) → HeadFits c → ReportFits (current_report c)
unfolding current_report
current_report_fits CurrentHead.Absent f = tt
current_report_fits (CurrentHead.Unclaimed u) f = tt
current_report_fits (CurrentHead.Preparing u) f = tt
current_report_fits (CurrentHead.Settled s) f = f.report

-- ---- deliver

seq_fits : (d : Driver) → A.DriverFits d → Fits (next_seq d.life.seq).0
unfolding next_seq
seq_fits d f = up_fits d.life.seq.0 f.life.seq

old_fits : (s : Option HeadDelivery) → HeldFits s → Fits (old_seq s).0
unfolding old_seq
old_fits None f = lit< tt
old_fits (Some held) f = f.seq

deliver_fits : (d : Driver) (a : ReadAnchor) (p : Hash) (cold : ℕ) → A.DriverFits d → Replied (deliver d a p cold)
unfolding deliver deliver_life
deliver_fits d a p cold f =
    cond_both (repeats (delivery d.life.current) a p) _ _ (λ (r : HeadLifecycle × Seq). Fits r.1.0)
    (λ e. old_fits (delivery d.life.current) (delivery_fits d.life.current f.life.current))
    (λ e. seq_fits d f)

-- ---- claim

abbrev StartFits : HeadLifecycle × Result Epoch HeadOutcome → Type 0
StartFits (l, Ok e) = Fits e.0
StartFits (l, Err o) = HeadOutcomeFits o

start_fits : (d : Driver) (s : Option HeadDelivery) (ticket : HeadTicket) → A.DriverFits d → HeldFits s → AnchorFits ticket.anchor → StartFits (claim_held s d.life ticket)
unfolding claim_held next_epoch
start_fits d None ticket f g t = t
start_fits d (Some held) ticket f g t =
    cond_both (not (has_ticket held ticket)) _ _ StartFits (λ e. g.anchor)
    (λ e. cond_both (holds (slot_anchor d.life.installed) held.anchor || is_settled d.life.current) _ _ StartFits (λ e. tt)
    (λ e. cond_both (is_preparing d.life.current) _ _ StartFits (λ e. tt) (λ e. up_fits d.life.claim_epoch.0 f.life.epoch)))

claimed_fits : (d : Driver) (r : HeadLifecycle × Result Epoch HeadOutcome) → StartFits r → Replied (claim_reply d r)
unfolding claim_answer
claimed_fits d (l, Ok e) f = f
claimed_fits d (l, Err o) f = f

-- ---- apply

abbrev PlanFits : HeadLifecycle × ApplyPlan → Type 0
PlanFits (l, ApplyPlan.Refused o) = HeadOutcomeFits o
PlanFits (l, ApplyPlan.Admitted held) = Unit {0}

plan_fits : (l : HeadLifecycle) (s : Option HeadDelivery) (ticket : HeadTicket) (list : ReadAnchor) → HeldFits s → AnchorFits ticket.anchor → AnchorFits list → PlanFits (plan_held s l ticket list)
unfolding plan_held
plan_fits l None ticket list f t x = t
plan_fits l (Some held) ticket list f t x =
    cond_both (not (has_ticket held ticket)) _ _ PlanFits (λ e. f.anchor)
    (λ e. cond_both (not (same_anchor list held.anchor)) _ _ PlanFits (λ e. (x, f.anchor))
    (λ e. cond_both (holds (slot_anchor l.installed) held.anchor) _ _ PlanFits (λ e. tt) (λ e. tt)))

applied_fits : (d : Driver) (r : HeadLifecycle × ApplyPlan) (skip : BalSkip) (handle carried report : ℕ) → SkipFits skip → Fits carried → PlanFits r
    → Replied (apply_planned d r.0 r.1 skip handle carried report)
unfolding apply_planned apply_settled
applied_fits d (l, ApplyPlan.Refused o) skip handle carried report f g h = h
applied_fits d (l, ApplyPlan.Admitted held) skip handle carried report f g h = outcome_fits _ held.anchor held.parent_hash skip carried f g

-- ---- views

abbrev ViewFits : HeadView → Type 0
ViewFits v = SourceFits v.source × Fits v.handle × ReadinessFits v.readiness

spare_fits : (s : Option ReadAnchor) (a : ReadAnchor) (spare : ℕ) → Fits spare → ViewFits (spare_view s a spare)
unfolding spare_view
spare_fits s a spare f = (tt, f, cond_both (holds s a) _ _ ColdFits (λ e. tt) (λ e. tt))

generation_fits : (source : Seq → Source) → ((n : Seq) → Fits n.0 → SourceFits (source n))
    → (g : Option Generation) (a : ReadAnchor) (other : HeadView)
    → GenerationSlotFits g → ViewFits other → ViewFits (generation_view source g a other)
unfolding generation_view
generation_fits source k None a other f h = h
generation_fits source k (Some g) a other f h =
    cond_both (same_anchor g.anchor a) _ _ ViewFits (λ e. (k g.seq f.seq, f.handle, f.readiness)) (λ e. h)

provisional_fits : (u : UnsettledHead) (a : ReadAnchor) (other : HeadView) → UnsettledFits u → ViewFits other → ViewFits (provisional_view u a other)
unfolding provisional_view
provisional_fits u a other f h = cond_both (same_anchor u.delivery.anchor a) _ _ ViewFits (λ e. (tt, f.provisional, tt)) (λ e. h)

current_view_fits : (c : CurrentHead) (a : ReadAnchor) (other : HeadView) → HeadFits c → ViewFits other → ViewFits (current_view c a other)
unfolding current_view
current_view_fits CurrentHead.Absent a other f h = h
current_view_fits (CurrentHead.Unclaimed u) a other f h = provisional_fits u a other f h
current_view_fits (CurrentHead.Preparing u) a other f h = provisional_fits u a other f h
current_view_fits (CurrentHead.Settled s) a other f h = h

view_fits : (l : HeadLifecycle) (a : ReadAnchor) (spare : ℕ) → A.LifeFits l → Fits spare → ViewFits (view l a spare)
unfolding view
view_fits l a spare f h =
    generation_fits Source.Installed (λ n k. k) l.installed a _ f.installed
    (current_view_fits l.current a _ f.current
    (generation_fits Source.Previous (λ n k. k) l.previous a _ f.previous (spare_fits l.superseded a spare h)))

shown_fits : (r : HeadReadiness) → ReadinessFits r → ReadinessFits (readiness_by_wait r)
unfolding readiness_by_wait
shown_fits HeadReadiness.Ready f = tt
shown_fits (HeadReadiness.Cold HeadCold.Unprepared) f = tt
shown_fits (HeadReadiness.Cold HeadCold.Superseded) f = tt
shown_fits (HeadReadiness.Cold HeadCold.Undelivered) f = tt
shown_fits (HeadReadiness.Cold HeadCold.Abandoned) f = tt
shown_fits (HeadReadiness.Cold (HeadCold.Settled k x)) f = f

unowned_fits : (v : HeadView) → ViewFits v → ViewFits (shown_by_wait v)
unfolding shown_by_wait
unowned_fits v f = (f.0, f.1, shown_fits v.readiness f.2)

abandoned_fits : (v : HeadView) (spare : ℕ) → ViewFits v → Fits spare → ViewFits (abandoned_view v spare)
unfolding abandoned_view
abandoned_fits v spare f h = cond_both (is_ready v.readiness) _ _ ViewFits (λ e. (tt, h, tt)) (λ e. (f.0, f.1, tt))

-- ---- wait and resume

anew_fits : (d : Driver) (n : ℕ) (a : ReadAnchor) (spare : ℕ) → A.DriverFits d → Fits spare → Replied (waits_anew d n a spare)
unfolding waits_anew view_frees viewed
anew_fits d n a spare f h = cond_both (preparing_at d.life.current a) _ _ Replied (λ e. tt) (λ e. unowned_fits (view d.life a spare) (view_fits d.life a spare f.life h))

wait_fits : (d : Driver) (w : Waiter) (n : ℕ) (a : ReadAnchor) (spare : ℕ) → A.DriverFits d → Fits spare → Replied (wait_as d n a spare w)
unfolding wait_as
wait_fits d Waiter.Free n a spare f h = anew_fits d n a spare f h
wait_fits d Waiter.Parked n a spare f h = tt
wait_fits d (Waiter.Abandoned b) n a spare f h = tt
wait_fits d (Waiter.Ended b) n a spare f h = tt

resume_fits : (d : Driver) (w : Waiter) (n spare : ℕ) → A.DriverFits d → Fits spare → Replied (resume_as d n spare w)
unfolding resume_as view_frees viewed
resume_fits d Waiter.Free n spare f h = tt
resume_fits d Waiter.Parked n spare f h = tt
resume_fits d (Waiter.Abandoned a) n spare f h = abandoned_fits (view d.life a spare) spare (view_fits d.life a spare f.life h) h
resume_fits d (Waiter.Ended a) n spare f h = anew_fits d n a spare f h

-- ---- every call

replied_fits : (d : Driver) (c : Call) → A.DriverFits d → Writable c → Replied (step d c)
unfolding step claim claim_life release apply plan_apply snapshot viewed wait resume completion link last_report stats heads
replied_fits d (Call.Deliver a p cold) f r = deliver_fits d a p cold f
replied_fits d (Call.Claim ticket) f r = claimed_fits d (claim_held (delivery d.life.current) d.life ticket) (start_fits d (delivery d.life.current) ticket f (delivery_fits d.life.current f.life.current) r.0)
replied_fits d (Call.Release owner) f r = tt
replied_fits d (Call.Apply ticket list handle carried report) f r =
    cond_both (not (as_prepared list)) _ _ Replied (λ e. tt)
    (λ e. applied_fits d (plan_held (delivery d.life.current) d.life ticket list.anchor) list.skip handle carried report r.3 r.5 (plan_fits d.life (delivery d.life.current) ticket list.anchor (delivery_fits d.life.current f.life.current) r.0 r.2))
replied_fits d (Call.Snapshot a spare) f r = view_fits d.life a spare f.life r.1
replied_fits d (Call.Wait n a spare) f r = cond_both (ltb 15 n) _ _ Replied (λ e. tt) (λ e. wait_fits d (waiter_at d.waiters n) n a spare f r.2)
replied_fits d (Call.Resume n spare) f r = cond_both (ltb 15 n) _ _ Replied (λ e. tt) (λ e. resume_fits d (waiter_at d.waiters n) n spare f r.1)
replied_fits d (Call.Completion a) f r = tt
replied_fits d (Call.Link parent child p) f r = tt
replied_fits d Call.Report f r = current_report_fits d.life.current f.life.current
replied_fits d Call.Stats f r = f.life.stats
replied_fits d Call.Heads f r = (current_fits (delivery d.life.current) (delivery_fits d.life.current f.life.current), slot_fits d.life.installed f.life.installed, slot_fits d.life.previous f.life.previous)

pub answer_fits : (d : Driver) (c : Call) → A.DriverFits d → Writable c → AnswerFits (step d c).answer
answer_fits = replied_fits
