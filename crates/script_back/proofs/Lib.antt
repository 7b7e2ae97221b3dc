-- What is written is read back, whatever follows that parts it from the next word: counters and outcomes.
pub mod Counters
pub mod Outcomes
