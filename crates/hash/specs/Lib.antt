-- Document 01, "Anchor and link": Hashes, when two hashes are equal. Ranges, the range of every number, is what the theorems speak of.
pub mod Hashes
pub mod Ranges
