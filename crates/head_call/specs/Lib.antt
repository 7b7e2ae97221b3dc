-- Document 01, "Turned away by the input". Inputs are the paper's; Ranges are what the theorems speak of.
pub mod Inputs
pub mod Ranges
