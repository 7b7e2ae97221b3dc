-- Document 01, "Lines", "Turned away by the input": what a line gets. All of it is the paper's.
pub mod Turns
