-- The steps of the functions: Values, of those that value digits; Words, of those that read a word.
pub mod Values
pub mod Words
