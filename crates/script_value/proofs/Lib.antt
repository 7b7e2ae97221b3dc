-- For users: Fronts, a text at the front of a buffer. Halves is the step of a single function.
pub mod Fronts
pub mod Halves
