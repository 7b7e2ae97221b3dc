-- For users: Back, a call's own line, but for the case of hash digits, is read as that call; Only, no other line is; Ranges, what a line writes
-- is below 2^64; Lengths, no call has more than 301 bytes. ValuesBack, ValuesOnly and ValuesRanges say the same of the values of a call.
-- Stopped and Lines have the steps of single functions.
pub mod ValuesBack
pub mod ValuesOnly
pub mod ValuesRanges
pub mod Back
pub mod Only
pub mod Ranges
pub mod Lengths
pub mod Stopped
pub mod Lines
