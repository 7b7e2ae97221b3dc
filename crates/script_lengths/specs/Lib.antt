-- What is proved of the lengths of answer lines and sheets.
pub mod Statements
