-- What a run writes, and what it starts from. Which bytes a system call brought or took no contract can say; where a reader and a writer
-- say it, these do.
pub mod Reads
pub mod Starts
