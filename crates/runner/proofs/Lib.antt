-- The loops over what a file brings, and over what a read brought.
pub mod Wholes
pub mod Answering
