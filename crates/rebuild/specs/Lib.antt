-- Document 02, Job 2: what is promised of a rebuild. All of it is the paper's.
pub mod Rebuilds
