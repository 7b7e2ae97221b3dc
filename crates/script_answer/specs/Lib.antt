-- Document 01, "Calls and answers": the line of an answer with its line feed. All of it is the paper's.
pub mod Answers
