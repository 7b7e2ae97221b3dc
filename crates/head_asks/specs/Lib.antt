-- Document 01, "Lines": the calls that only ask. All of it is the paper's.
pub mod Asks
