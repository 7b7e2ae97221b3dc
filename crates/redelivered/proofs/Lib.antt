-- The proofs. Settles: what is installed and what is previous stay until an apply settles. Applied: what an apply that settles
-- installs, and what is then previous. Redelivered: a delivery leaves it, and a snapshot reads it. AfterLines: the same over lines.
pub mod Settles
pub mod Applied
pub mod Redelivered
pub mod AfterLines
