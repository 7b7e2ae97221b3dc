-- The helpers': how the bytes of a line are kept until its line feed comes.
pub mod Kept
