-- The steps of the function.
pub mod Rebuilt
