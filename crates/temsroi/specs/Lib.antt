-- Document 02, Job 4. Calls: what each call from C leaves; all of it is the paper's, but for the call that writes a new driver's sheet,
-- which is added. Statements: what is proved of a call. Hosts: what a host gets that makes one call after another.
pub mod Calls
pub mod Statements
pub mod Hosts
