-- Document 01, "Lifecycle" and "Turned away": the calls on a driver that move the head. All of it is the paper's.
pub mod Deliver
pub mod Claim
pub mod Release
pub mod Apply
