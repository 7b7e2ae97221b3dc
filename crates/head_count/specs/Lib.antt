-- Document 01, "Lifecycle": the counters, delivery numbers and epochs. All but Ranges, which the theorems speak of, is the paper's.
pub mod Counters
pub mod Ranges
