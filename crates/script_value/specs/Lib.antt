-- Document 01, "Calls and answers": Lines is the paper's, the line of an answer without its line feed. Texts names the text of the counters; Buffers says what writing a whole text does.
pub mod Texts
pub mod Lines
pub mod Buffers
