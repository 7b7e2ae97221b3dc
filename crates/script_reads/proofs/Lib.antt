-- Statistics is the step of a single function.
pub mod Statistics
