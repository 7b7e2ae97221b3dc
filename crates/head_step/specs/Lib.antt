-- Document 01: every call. Steps is the paper's; Statements are what is proved of it.
pub mod Steps
pub mod Statements
