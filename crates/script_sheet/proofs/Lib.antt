-- Shown: what is not shown is nowhere written, the step from the code's lines to the sheet's.
pub mod Shown
