-- Rows is the loop of a single function.
pub mod Rows
