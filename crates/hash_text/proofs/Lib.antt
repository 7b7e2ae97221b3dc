-- For users: Back, what is written is read back, on a line with digits of either case; Only, nothing else is read; Cases, lines that are a
-- given text but for the case of hash digits; HexRead, the steps of those who read digits; Capitals, a text without them. HexFill has the
-- steps of a function.
pub mod Back
pub mod Only
pub mod Cases
pub mod HexFill
pub mod HexRead
pub mod Capitals
