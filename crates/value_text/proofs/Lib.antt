-- For users: Stands, what is left to read is a given text; Back, a value is read where its text stands; Only, nothing else is read; Rows,
-- values in a row; Keywords, the steps of a choice by a keyword; Lengths, how long a value's text can be; Ranges, what is read is below 2^64.
pub mod Stands
pub mod Rows
pub mod Keywords
pub mod Back
pub mod Lengths
pub mod Only
pub mod Ranges
