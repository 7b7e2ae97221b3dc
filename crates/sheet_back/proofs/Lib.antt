-- For users: Sheets, Forms and Bytes, the statements. Ranges, Lines and Waiters are steps to the first; Only, WaitersOnly and Shapes,
-- what is read was written so, to the second. Bytes needs none of them, only what each line is made of.
pub mod Ranges
pub mod Lines
pub mod Only
pub mod WaitersOnly
pub mod Shapes
pub mod Waiters
pub mod Forms
pub mod Sheets
pub mod Bytes
