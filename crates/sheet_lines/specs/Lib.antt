-- Document 01, "The sheet", and document 02, Job 1: its lines. All of it is the paper's.
pub mod Lines
