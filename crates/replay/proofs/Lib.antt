-- The steps of single functions.
pub mod Replaying
pub mod Striking
-- For readers: what is struck, and what is not.
pub mod Struck
