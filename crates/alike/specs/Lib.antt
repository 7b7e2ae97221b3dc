-- Demand 3 over calls. Invariant (with Ranges), Canon and Runs are what the statements speak of; Statements are what is proved.
pub mod Ranges
pub mod Invariant
pub mod Canon
pub mod Runs
pub mod Statements
