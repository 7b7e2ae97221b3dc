-- Document 01, "Lines": the text of a value, and how an anchor and a skip are read. Words, Values and Reads are the paper's; Texts names the text of each value.
pub mod Words
pub mod Values
pub mod Texts
pub mod Reads
