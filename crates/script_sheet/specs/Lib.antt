-- Document 01, "The sheet". All of it is the paper's.
pub mod Sheets
