-- The sixteen waiters, read and written by number.
use Rattle.std.specs.Prelude.{ℕ, List, get_or, set}
use Rattle.head_attempt.specs.Waiters.{slot_of}
use Rattle.head_attempt.specs.declared.Waiter.{Waiter}
use Rattle.head_attempt.specs.declared.WaiterSlot.{WaiterSlot}
use Rattle.head_driver.specs.declared.Driver.{Driver}

-- the waiter of that number
unfoldable pub waiter_at : List WaiterSlot → ℕ → Waiter
waiter_at ws n = (get_or ws n (slot_of Waiter.Free)).waiter

-- the driver with that waiter under that number
unfoldable pub put : Driver → ℕ → Waiter → Driver
put d n w = record { life = d.life; waiters = set d.waiters n (slot_of w) }
