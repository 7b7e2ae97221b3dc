-- For users: Cuttings, how an input may be cut; Fits, what was written lies within the buffer. The others are the steps of single functions.
pub mod Cuttings
pub mod Fits
pub mod Printing
pub mod Placing
pub mod Ending
pub mod Lines
pub mod Feeding
