-- Demand 3 over lines: Runs and Sheets are what it speaks of, Statements what is proved; Inputs the same over whole inputs; Brought, Job 2:
-- over lines and rebuilds. Demand 1: Refusals and Said are what it speaks of, TurnedAway what is proved. Numbers: Job 1's bound on the
-- numbers under which generations settled, what is proved of it.
pub mod Runs
pub mod Sheets
pub mod Statements
pub mod Inputs
pub mod Refusals
pub mod Said
pub mod TurnedAway
pub mod Numbers
pub mod Brought
