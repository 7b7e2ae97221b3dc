-- Every number that a driver or a call holds is one of 64 bits. The types of a theorem do not say so: there a number has no limit.
use Rattle.std.specs.Prelude.{List, [], ◌∷◌, ◌≡◌, length}
use Rattle.head_attempt.specs.declared.Waiter.{Waiter}
use Rattle.head_attempt.specs.declared.WaiterSlot.{WaiterSlot}
use Rattle.head_driver.specs.declared.Driver.{Driver}
use Rattle.head_life.specs.declared.HeadLifecycle.{HeadLifecycle}
use Rattle.hash.specs.Ranges.{Fits}
use Rattle.head_values.specs.Ranges.{AnchorFits, SlotFits}
use Rattle.head_current.specs.Ranges.{HeadFits}
use Rattle.head_ready.specs.Ranges.{GenerationSlotFits}
use Rattle.head_count.specs.Ranges.{StatsFit}

pub record LifeFits (l : HeadLifecycle) : Type 0 where
  pub current : HeadFits l.current
  pub superseded : SlotFits l.superseded
  pub installed : GenerationSlotFits l.installed
  pub previous : GenerationSlotFits l.previous
  pub seq : Fits l.seq.0
  pub epoch : Fits l.claim_epoch.0
  pub stats : StatsFit l.stats

abbrev pub WaiterFits : Waiter → Type 0
WaiterFits Waiter.Free = Unit {0}
WaiterFits Waiter.Parked = Unit {0}
WaiterFits (Waiter.Abandoned a) = AnchorFits a
WaiterFits (Waiter.Ended a) = AnchorFits a

abbrev pub WaitersFit : List WaiterSlot → Type 0
WaitersFit [] = Unit {0}
WaitersFit (s ∷ ss) = WaiterFits s.waiter × WaitersFit ss

-- and there are sixteen waiters
pub record DriverFits (d : Driver) : Type 0 where
  pub life : LifeFits d.life
  pub waiters : WaitersFit d.waiters
  pub sixteen : length d.waiters ≡ 16
