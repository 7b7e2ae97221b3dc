-- Document 01, "Lifecycle" and "The sixteen waiters": attempts, waiters, what is said of an end. All of it is the paper's.
pub mod Attempts
pub mod Waiters
pub mod Said
