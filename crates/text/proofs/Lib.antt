-- For users: Writes, texts into a buffer; Back, what is written is read back; Only, nothing else is read; Words and Same, words and
-- their comparison. The others are the steps of single functions.
pub mod Writes
pub mod Back
pub mod Only
pub mod Words
pub mod Same
pub mod Places
pub mod Digits
pub mod DecimalRead
