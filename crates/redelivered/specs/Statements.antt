-- Document 01, "Lifecycle": "If the anchor is installed, .. installed readiness kept"; "Traps": "a redelivered cold head
-- shown ready". Document 02, Job 1: "A redelivery of the installed block keeps the old number."
use Rattle.std.specs.Prelude.{ℕ, ◌≤◌, false, List, [], ◌∷◌, ◌≡◌, Some}
use Rattle.hash.specs.declared.Hash.{Hash}
use Rattle.head_values.specs.declared.CarryOutcome.{CarryOutcome}
use Rattle.head_values.specs.declared.PreparedBal.{PreparedBal}
use Rattle.head_values.specs.declared.ReadAnchor.{ReadAnchor}
use Rattle.head_attempt.specs.declared.Waiter.{Waiter}
use Rattle.head_ready.specs.Generations.{is_ready, view_of}
use Rattle.head_ready.specs.declared.Generation.{Generation}
use Rattle.head_ready.specs.declared.HeadCold.{HeadCold}
use Rattle.head_ready.specs.declared.HeadOutcome.{HeadOutcome}
use Rattle.head_ready.specs.declared.HeadReadiness.{HeadReadiness}
use Rattle.head_ready.specs.declared.HeadView.{HeadView}
use Rattle.head_ready.specs.declared.Source.{Source}
use Rattle.head_current.specs.declared.HeadTicket.{HeadTicket}
use Rattle.head_call.specs.declared.Call.{Call}
use Rattle.head_life.specs.Apply.{settled_readiness}
use Rattle.head_driver.specs.declared.Answer.{Answer}
use Rattle.head_driver.specs.declared.Driver.{Driver}
use Rattle.head_waits.specs.Parts.{waiter_at}
use Rattle.head_step.specs.Steps.{step}
use Rattle.script_call.specs.Calls.{call}
use Rattle.script_call.specs.declared.LineCall.{LineCall}
use Rattle.script_answer.specs.declared.LineAnswer.{LineAnswer}
use Rattle.alike.specs.Invariant.{WhenUnsettled}
use Rattle.rules.specs.Brought.{Brought}
use Rattle.rules.specs.Runs.{Entry, after, turn_at}

-- as it settled: from the installed generation, the number under which it settled, its handle, its readiness
abbrev pub as_settled : Generation → HeadView
as_settled g = view_of (Source.Installed g.seq) g.handle g.readiness

-- A block that is installed and is delivered again, under whatever parent hash, is shown as it settled. A head that settled cold
-- stays cold with its reason, and the number is the old one, whatever number this delivery has.
abbrev pub ShownAsSettled : Type 0
ShownAsSettled = (d : Driver) (g : Generation) → d.life.installed ≡ Some g → (p : Hash) (cold spare : ℕ)
    → (step (step d (Call.Deliver g.anchor p cold)).driver (Call.Snapshot g.anchor spare)).answer
    ≡ Answer.View (as_settled g)

-- ---- the same over lines, and however many follow

-- the answer is not that an apply settled
abbrev pub NotSettled : LineAnswer → Type 0
NotSettled answer = (o : CarryOutcome) → ¬ (answer ≡ LineAnswer.Said (Answer.Outcome (HeadOutcome.Settled o)))

-- no apply among the lines settles
abbrev pub NoneSettles : Driver → List Entry → Type 0
NoneSettles d [] = Unit {0}
NoneSettles d (e ∷ es) = NotSettled (turn_at d e).answer × NoneSettles (turn_at d e).driver es

-- the line asks for a view at that anchor: it is a snapshot, a wait on a free waiter, or a resume of one whose wait there ended
pub data AsksFor (d : Driver) (a : ReadAnchor) (line : List ℕ) : Type 0 where
  by_snapshot : (spare : ℕ) → call line ≡ Some (LineCall.Make (Call.Snapshot a spare)) → AsksFor d a line
  by_wait : (n spare : ℕ) → n ≤ 15 → waiter_at d.waiters n ≡ Waiter.Free → call line ≡ Some (LineCall.Make (Call.Wait n a spare)) → AsksFor d a line
  by_resume : (n spare : ℕ) → n ≤ 15 → waiter_at d.waiters n ≡ Waiter.Ended a → call line ≡ Some (LineCall.Make (Call.Resume n spare)) → AsksFor d a line

-- abandoned, from that source, with the generation's handle
abbrev pub abandoned_at : Source → Generation → HeadView
abandoned_at source g = view_of source g.handle (HeadReadiness.Cold HeadCold.Abandoned)

-- the driver after a line, and after more lines
abbrev pub driver_after : Driver → Entry → List Entry → Driver
driver_after d next more = after (turn_at d next).driver more

-- In every driver that lines and rebuilds bring about, what an apply settled is shown with the number of that apply's ticket, its
-- handle and the readiness of its outcome, after any further lines among which no apply settles, deliveries of the same
-- block among them: by a snapshot, by a wait on a free waiter, and by a resume of one whose wait there ended.
abbrev pub ShownUntilNextSettle : Type 0
ShownUntilNextSettle = (d : Driver) → Brought d
    → (more : List Entry) (settling asked : Entry) (ticket : HeadTicket) (list : PreparedBal) (handle carried report : ℕ) (o : CarryOutcome)
    → call settling.line ≡ Some (LineCall.Make (Call.Apply ticket list handle carried report))
    → (turn_at d settling).answer ≡ LineAnswer.Said (Answer.Outcome (HeadOutcome.Settled o))
    → NoneSettles (turn_at d settling).driver more
    → AsksFor (driver_after d settling more) ticket.anchor asked.line
    → (turn_at (driver_after d settling more) asked).answer
    ≡ LineAnswer.Said (Answer.View (view_of (Source.Installed ticket.seq) handle (settled_readiness o)))

-- In every driver that lines and rebuilds bring about, a block that is installed and is delivered again is shown as it settled, directly
-- after that delivery and after any further lines among which no apply settles: to whatever line asks.
abbrev pub ShownAfterLines : Type 0
ShownAfterLines = (d : Driver) → Brought d → (more : List Entry) (again asked : Entry) (g : Generation) (p : Hash) (cold : ℕ)
    → d.life.installed ≡ Some g
    → call again.line ≡ Some (LineCall.Make (Call.Deliver g.anchor p cold))
    → NoneSettles (turn_at d again).driver more
    → AsksFor (driver_after d again more) g.anchor asked.line
    → (turn_at (driver_after d again more) asked).answer ≡ LineAnswer.Said (Answer.View (as_settled g))

-- "Carried makes the installed generation the previous one, readiness included"; Job 1, with its number: in every driver that
-- lines and rebuilds bring about, what was installed when an apply carried is shown from previous with the number under which it
-- settled, after any further lines among which no apply settles, unless the block was delivered anew and is not settled yet.
abbrev pub PreviousAsSettled : Type 0
PreviousAsSettled = (d : Driver) → Brought d
    → (more : List Entry) (carrying asked : Entry) (g : Generation) (ticket : HeadTicket) (list : PreparedBal)
    (handle carried report count : ℕ)
    → d.life.installed ≡ Some g
    → call carrying.line ≡ Some (LineCall.Make (Call.Apply ticket list handle carried report))
    → (turn_at d carrying).answer ≡ LineAnswer.Said (Answer.Outcome (HeadOutcome.Settled (CarryOutcome.Carried count)))
    → NoneSettles (turn_at d carrying).driver more
    → WhenUnsettled (driver_after d carrying more).life.current (λ u. ¬ (u.delivery.anchor ≡ g.anchor))
    → AsksFor (driver_after d carrying more) g.anchor asked.line
    → (turn_at (driver_after d carrying more) asked).answer
    ≡ LineAnswer.Said (Answer.View (view_of (Source.Previous g.seq) g.handle g.readiness))

-- Document 01, "The sixteen waiters": "After an abandonment the answer is the snapshot with reason `abandoned`", and "if that
-- snapshot was ready, the spare handle is given"; so a block that settled cold is shown from its source, with its number.
abbrev pub AbandonedAsSettled : Type 0
AbandonedAsSettled = (d : Driver) → Brought d → (asked : Entry) (g : Generation) (n spare : ℕ)
    → is_ready g.readiness ≡ false → n ≤ 15 → waiter_at d.waiters n ≡ Waiter.Abandoned g.anchor
    → call asked.line ≡ Some (LineCall.Make (Call.Resume n spare))
    → (d.life.installed ≡ Some g
    → (turn_at d asked).answer ≡ LineAnswer.Said (Answer.View (abandoned_at (Source.Installed g.seq) g)))
    × (d.life.previous ≡ Some g → WhenUnsettled d.life.current (λ u. ¬ (u.delivery.anchor ≡ g.anchor))
    → (turn_at d asked).answer ≡ LineAnswer.Said (Answer.View (abandoned_at (Source.Previous g.seq) g)))
