-- Document 01, "What contracts say": a new driver. The Rust: `BalHeadDriver::new`, of head_lifecycle.rs.
use Rattle.std.specs.Prelude.{replicate}
use Rattle.head_attempt.specs.Waiters.{slot_of}
use Rattle.head_attempt.specs.declared.Waiter.{Waiter}
use Rattle.head_life.specs.State.{no_head}
use Rattle.head_driver.specs.declared.Driver.{Driver}

-- "A new driver has no current head, no superseded anchor, nothing installed or previous, all waiters free, all counters 0."
unfoldable pub new : Driver
new = record { life = no_head; waiters = replicate 16 (slot_of Waiter.Free) }
