-- What is read of the text of a value that neither a call nor a sheet has: Outcomes.
pub mod Outcomes
