-- What is proved of how a settled block is shown.
pub mod Statements
