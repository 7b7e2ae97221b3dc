-- The steps of single functions.
pub mod Stopped
pub mod Waiters
