-- Document 01, "Lifecycle" and "Turned away by the state": what a call makes of the lifecycle, one file a call, each
-- with the small words that its sentences are written with; Said is what is promised of the answers of a claim and of a plan.
pub mod State
pub mod Deliver
pub mod Claim
pub mod Release
pub mod Apply
pub mod Views
pub mod Completion
pub mod Said
