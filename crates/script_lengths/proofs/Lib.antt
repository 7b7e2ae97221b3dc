-- For users: Answers and Sheets, the statements. Values are their steps.
pub mod Values
pub mod Answers
pub mod Sheets
