-- Document 01, "Edges": Runs says what lines print; Table has E1 to E12; Statements is the claim.
pub mod Runs
pub mod Table
pub mod Statements
