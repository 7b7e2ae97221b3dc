-- Document 01, "Lifecycle": the current head. Heads, Moves and Said are the paper's; Parts are for contracts and proofs;
-- Ranges are what the theorems speak of.
pub mod Heads
pub mod Moves
pub mod Said
pub mod Parts
pub mod Ranges
