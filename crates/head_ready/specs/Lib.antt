-- Document 01, "Lifecycle": readiness and generations; "Turned away by the state": 11 to 14; what is said of them; document
-- 02, Job 1: settle numbers. All but Ranges, which the theorems speak of, is the paper's.
pub mod Generations
pub mod Refusals
pub mod Said
pub mod Ranges
