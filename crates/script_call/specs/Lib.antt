-- Document 01's call lines: Values, how each value of a call is read; Calls, from the bytes of a line to its call; Texts, each call's own line; Ranges, the calls
-- that a line can write; Statements, which lines are calls.
pub mod Values
pub mod Calls
pub mod Texts
pub mod Ranges
pub mod Statements
