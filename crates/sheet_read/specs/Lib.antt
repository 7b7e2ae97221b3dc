-- Document 01, "The sheet", with document 02, Job 1, read: Values, Heads, Waiters are its parts; Reads the whole.
pub mod Values
pub mod Heads
pub mod Waiters
pub mod Reads
