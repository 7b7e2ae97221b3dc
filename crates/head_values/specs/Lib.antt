-- Document 01, "Anchor and link" and "Prepared list and outcome", and the words and
-- values that answers say. All but Ranges, which the theorems speak of, is the paper's.
pub mod Anchors
pub mod Links
pub mod Lists
pub mod Words
pub mod Values
pub mod Said
pub mod Ranges
