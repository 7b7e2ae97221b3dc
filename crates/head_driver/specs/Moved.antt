-- Document 01, "The sixteen waiters": "Each parked waiter waits on the current preparation, and the call that ends this preparation ends
-- them all." The Rust: what `publish` sends to the receivers of an attempt's `watch` channel, of head_lifecycle.rs.
use Rattle.std.specs.Prelude.{List, cond}
use Rattle.head_attempt.specs.Attempts.{publish}
use Rattle.head_attempt.specs.Waiters.{wake}
use Rattle.head_attempt.specs.declared.HeadCompletion.{HeadCompletion}
use Rattle.head_attempt.specs.declared.WaiterSlot.{WaiterSlot}
use Rattle.head_current.specs.Heads.{is_preparing}
use Rattle.head_current.specs.declared.CurrentHead.{CurrentHead}
use Rattle.head_life.specs.declared.HeadLifecycle.{HeadLifecycle}
use Rattle.head_driver.specs.declared.Driver.{Driver}

-- The call that ends the preparation: the head was preparing, and now it is not.
-- The waiters get the end that `publish` leaves, so an attempt's first end.
unfoldable pub woken_waiters : HeadCompletion → CurrentHead → CurrentHead → List WaiterSlot → List WaiterSlot
woken_waiters end CurrentHead.Absent now ws = ws
woken_waiters end (CurrentHead.Unclaimed u) now ws = ws
woken_waiters end (CurrentHead.Preparing u) now ws = cond (is_preparing now) ws (wake (publish u.attempt end).end u.delivery.anchor ws)
woken_waiters end (CurrentHead.Settled s) now ws = ws

-- the driver with the lifecycle that a call leaves, and with the waiters that it wakes; `end` is the end of a preparation by this call
unfoldable pub moved : Driver → HeadLifecycle → HeadCompletion → Driver
moved d l end = record { life = l; waiters = woken_waiters end d.life.current l.current d.waiters }
