-- The steps of single functions.
pub mod Keywords
pub mod Stopped
pub mod Texts
