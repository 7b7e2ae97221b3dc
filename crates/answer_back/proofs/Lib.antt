-- For users: Answers, the statements. Forms is how a line is cut.
pub mod Forms
pub mod Answers
