-- What every driver keeps, whatever calls it gets: the state's own rules, I1 to I11, and the ranges of its numbers. What a
-- sheet shows, taken as a driver, keeps it too, so no more than this may be used of a driver.
use Rattle.head_current.specs.declared.DeltaReport.{DeltaReport}
use Rattle.std.specs.Prelude.{ℕ, ◌+◌, ◌≤◌, false, List, [], ◌∷◌, ◌≡◌, Option, None, Some, ◌&&◌}
use Rattle.head_values.specs.Anchors.{holds}
use Rattle.head_values.specs.Lists.{is_linked, is_decoded}
use Rattle.head_attempt.specs.Attempts.{minted}
use Rattle.head_count.specs.Counters.{seq_of}
use Rattle.head_current.specs.Heads.{delivery, current_report}
use Rattle.head_life.specs.Apply.{settled_readiness}
use Rattle.head_ready.specs.Generations.{slot_anchor}
use Rattle.head_values.specs.declared.CarryOutcome.{CarryOutcome}
use Rattle.head_attempt.specs.declared.HeadCompletion.{HeadCompletion}
use Rattle.head_attempt.specs.declared.Waiter.{Waiter}
use Rattle.head_attempt.specs.declared.WaiterSlot.{WaiterSlot}
use Rattle.head_current.specs.declared.CurrentHead.{CurrentHead}
use Rattle.head_current.specs.declared.HeadDelivery.{HeadDelivery}
use Rattle.head_current.specs.declared.SettledHead.{SettledHead}
use Rattle.head_current.specs.declared.UnsettledHead.{UnsettledHead}
use Rattle.head_driver.specs.declared.Driver.{Driver}
use Rattle.head_ready.specs.declared.Generation.{Generation}
use Rattle.head_ready.specs.declared.HeadCold.{HeadCold}
use Rattle.head_life.specs.declared.HeadLifecycle.{HeadLifecycle}
use Rattle.head_ready.specs.declared.HeadReadiness.{HeadReadiness}
use Rattle.alike.specs.Ranges.{DriverFits}

-- a fact of a current head, by what it is
abbrev pub ByHead : Type 0 → (UnsettledHead → Type 0) → (UnsettledHead → Type 0) → (SettledHead → Type 0) → CurrentHead → Type 0
ByHead absent unclaimed preparing settled CurrentHead.Absent = absent
ByHead absent unclaimed preparing settled (CurrentHead.Unclaimed u) = unclaimed u
ByHead absent unclaimed preparing settled (CurrentHead.Preparing u) = preparing u
ByHead absent unclaimed preparing settled (CurrentHead.Settled s) = settled s

abbrev pub Any : {A : Type 0} → A → Type 0
Any a = Unit {0}

abbrev pub WhenAbsent : CurrentHead → Type 0 → Type 0
WhenAbsent c P = ByHead P Any Any Any c

abbrev pub WhenUnclaimed : CurrentHead → (UnsettledHead → Type 0) → Type 0
WhenUnclaimed c P = ByHead (Unit {0}) P Any Any c

abbrev pub WhenPreparing : CurrentHead → (UnsettledHead → Type 0) → Type 0
WhenPreparing c P = ByHead (Unit {0}) Any P Any c

abbrev pub WhenUnsettled : CurrentHead → (UnsettledHead → Type 0) → Type 0
WhenUnsettled c P = ByHead (Unit {0}) P P Any c

abbrev pub WhenSettled : CurrentHead → (SettledHead → Type 0) → Type 0
WhenSettled c P = ByHead (Unit {0}) Any Any P c

abbrev pub UnlessPreparing : CurrentHead → Type 0 → Type 0
UnlessPreparing c P = ByHead P (λ u. P) Any (λ s. P) c

-- a fact of what was delivered, of a generation, of a report's outcome, where there is one
abbrev pub WhenHeld : Option HeadDelivery → (HeadDelivery → Type 0) → Type 0
WhenHeld None P = Unit {0}
WhenHeld (Some held) P = P held

abbrev pub WhenGeneration : Option Generation → (Generation → Type 0) → Type 0
WhenGeneration None P = Unit {0}
WhenGeneration (Some g) P = P g

abbrev pub WhenMade : Option DeltaReport → (CarryOutcome → Type 0) → Type 0
WhenMade None P = Unit {0}
WhenMade (Some r) P = P r.outcome

-- the number under which it settled is at most n
abbrev pub NumberAtMost : ℕ → Generation → Type 0
NumberAtMost n g = g.seq.0 ≤ n

abbrev pub OpenOrAbandoned : HeadCompletion → Type 0
OpenOrAbandoned HeadCompletion.Open = Unit {0}
OpenOrAbandoned HeadCompletion.Settled = ⊥
OpenOrAbandoned HeadCompletion.Superseded = ⊥
OpenOrAbandoned HeadCompletion.Abandoned = Unit {0}

-- installed, and one number higher than previous, where there is a previous one
abbrev pub Follows : Option Generation → Option Generation → Type 0
Follows installed None = Unit {0}
Follows None (Some q) = ⊥
Follows (Some g) (Some q) = q.anchor.number + 1 ≡ g.anchor.number

-- as an apply gives it: ready, or cold with link and skip, at least one of them a fault
abbrev pub FromApply : HeadReadiness → Type 0
FromApply HeadReadiness.Ready = Unit {0}
FromApply (HeadReadiness.Cold HeadCold.Unprepared) = ⊥
FromApply (HeadReadiness.Cold HeadCold.Superseded) = ⊥
FromApply (HeadReadiness.Cold HeadCold.Undelivered) = ⊥
FromApply (HeadReadiness.Cold HeadCold.Abandoned) = ⊥
FromApply (HeadReadiness.Cold (HeadCold.Settled link skip)) = (is_linked link && is_decoded skip) ≡ false

abbrev pub ReadinessIs : HeadReadiness → Option Generation → Type 0
ReadinessIs r None = ⊥
ReadinessIs r (Some g) = g.readiness ≡ r

abbrev pub NotParked : Waiter → Type 0
NotParked Waiter.Free = Unit {0}
NotParked Waiter.Parked = ⊥
NotParked (Waiter.Abandoned a) = Unit {0}
NotParked (Waiter.Ended a) = Unit {0}

abbrev pub NoneParked : List WaiterSlot → Type 0
NoneParked [] = Unit {0}
NoneParked (s ∷ ss) = NotParked s.waiter × NoneParked ss

-- The lifecycle's rules.
pub record Ordered (l : HeadLifecycle) : Type 0 where
  -- I1: seq is delivered, and is the current head's seq
  pub seq_delivered : l.seq ≡ seq_of l.stats.delivered
  pub seq_current : WhenHeld (delivery l.current) (λ held. held.seq ≡ l.seq)
  -- I2: preparing: its attempt is open, at the epoch counter
  pub preparing_attempt : WhenPreparing l.current (λ u. u.attempt ≡ minted l.claim_epoch)
  -- I3: settled: its attempt ended settled, and it is the installed one
  pub settled_end : WhenSettled l.current (λ s. s.attempt.end ≡ HeadCompletion.Settled)
  pub settled_installed : WhenSettled l.current (λ s. slot_anchor l.installed ≡ Some s.delivery.anchor)
  -- I4: unsettled: not installed; unclaimed: open or abandoned
  pub unsettled_elsewhere : WhenUnsettled l.current (λ u. holds (slot_anchor l.installed) u.delivery.anchor ≡ false)
  pub unclaimed_end : WhenUnclaimed l.current (λ u. OpenOrAbandoned u.attempt.end)
  -- I5: no current head: superseded, installed, previous absent
  pub absent_rest : WhenAbsent l.current ((l.superseded ≡ None) × (l.installed ≡ None) × (l.previous ≡ None))
  -- I6: previous present: installed present, one number higher
  pub previous_below : Follows l.installed l.previous
  -- I8: installed and previous are ready, or cold with link and skip, at least one a fault; the same of an outcome in a report
  pub installed_readiness : WhenGeneration l.installed (λ g. FromApply g.readiness)
  pub previous_readiness : WhenGeneration l.previous (λ g. FromApply g.readiness)
  pub report_readiness : WhenMade (current_report l.current) (λ o. FromApply (settled_readiness o))
  -- I9: a report's outcome gives the installed readiness
  pub report_installed : WhenMade (current_report l.current) (λ o. ReadinessIs (settled_readiness o) l.installed)
  -- I10: preparing or abandoned: epoch at least 1
  pub preparing_epoch : WhenPreparing l.current (λ u. 1 ≤ l.claim_epoch.0)
  pub abandoned_epoch : WhenUnclaimed l.current (λ u. u.attempt.end ≡ HeadCompletion.Abandoned → 1 ≤ l.claim_epoch.0)
  -- I11: the numbers under which installed and previous settled are at most seq, which is delivered
  pub installed_number : WhenGeneration l.installed (NumberAtMost l.seq.0)
  pub previous_number : WhenGeneration l.previous (NumberAtMost l.seq.0)

-- I7: parked: the head is preparing
abbrev pub Parks : CurrentHead → List WaiterSlot → Type 0
Parks c ws = UnlessPreparing c (NoneParked ws)

pub record Invariant (d : Driver) : Type 0 where
  pub ordered : Ordered d.life
  pub parks : Parks d.life.current d.waiters
  pub fits : DriverFits d
