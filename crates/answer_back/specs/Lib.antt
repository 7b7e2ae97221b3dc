-- Statements are what is proved; Reads and Ranges what they speak of.
pub mod Ranges
pub mod Reads
pub mod Statements
