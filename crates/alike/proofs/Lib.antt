-- The proofs of specs/Statements, lowest first. Tests and Waking: laws of the tests, the counters and the waiters. Nexts to Kept: every call keeps the invariant. Masks to Canons:
-- what is shown against what can be told. Poses to WaiterProbes: each part that is shown is told by some calls. Rule: the whole.
pub mod Tests
pub mod Waking
pub mod Nexts
pub mod Moves
pub mod KeptOrder
pub mod KeptParks
pub mod KeptRanges
pub mod Kept
pub mod Masks
pub mod Alike
pub mod Shown
pub mod Canons
pub mod Poses
pub mod Replies
pub mod Twins
pub mod Probes
pub mod Brought
pub mod DeepProbes
pub mod WaiterProbes
pub mod Rule
