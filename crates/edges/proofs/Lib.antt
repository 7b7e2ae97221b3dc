-- Opened: all definitions by one name. Edges: the claim.
pub mod Opened
pub mod Edges
