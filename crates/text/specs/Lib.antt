-- Document 01's words and decimals of a line: Words, Decimals. The rest is the helpers': how texts are quoted, compared, read on
-- and written.
pub mod Words
pub mod Decimals
pub mod Ascii
pub mod Same
pub mod Digits
pub mod Rests
pub mod Places
pub mod Writes
