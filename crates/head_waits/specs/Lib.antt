-- Document 01, "Lifecycle": `snapshot`; "The sixteen waiters": `wait` and `resume`. Parts are how the sixteen are read and written.
pub mod Parts
pub mod Snapshot
pub mod Waits
