-- Document 01, "The sixteen waiters": "Each parked waiter waits on the current preparation, and the call that ends this preparation
-- ends them all." The Rust: the receivers that `wait_for_head` takes of an attempt's `watch` channel, of head_lifecycle.rs.
use Rattle.std.specs.Prelude.{List, map}
use Rattle.head_values.specs.declared.ReadAnchor.{ReadAnchor}
use Rattle.head_attempt.specs.declared.HeadCompletion.{HeadCompletion}
use Rattle.head_attempt.specs.declared.Waiter.{Waiter}
use Rattle.head_attempt.specs.declared.WaiterSlot.{WaiterSlot}

-- a waiter after the preparation at that anchor has ended so: a parked one is woken, any other stays as it is
unfoldable pub woken : HeadCompletion → ReadAnchor → Waiter → Waiter
woken end a Waiter.Free = Waiter.Free
woken HeadCompletion.Open a Waiter.Parked = Waiter.Parked
woken HeadCompletion.Settled a Waiter.Parked = Waiter.Ended a
woken HeadCompletion.Superseded a Waiter.Parked = Waiter.Ended a
woken HeadCompletion.Abandoned a Waiter.Parked = Waiter.Abandoned a
woken end a (Waiter.Abandoned b) = Waiter.Abandoned b
woken end a (Waiter.Ended b) = Waiter.Ended b

abbrev pub slot_of : Waiter → WaiterSlot
slot_of w = record { waiter = w }

-- "ends them all"
unfoldable pub wake : HeadCompletion → ReadAnchor → List WaiterSlot → List WaiterSlot
wake end a waiters = map (λ s. slot_of (woken end a s.waiter)) waiters
