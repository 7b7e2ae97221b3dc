-- What is proved of sheets.
pub mod Statements
