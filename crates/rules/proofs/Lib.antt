-- The proofs of specs/Statements, of specs/Brought and of specs/TurnedAway, each lowest first. Fits: what is answered has its numbers below
-- 2^64. Bytes: a call's line is a line of bytes. LineFeeds: what `(sheet)` writes. Lines: lines against the calls that they write. Rule:
-- the halves of the sheet rule. Inputs: the rule over whole inputs. Said: the lines of refusals. Conditions, Tried: the tests, each and in
-- order. TurnedAway: demand 1. Brought: the sheet rule over lines and rebuilds, and a box put back. Rebuilt: demand 1 of a rebuild. Claims:
-- a claim's 13. Numbers: the numbers under which generations settled.
pub mod Fits
pub mod Bytes
pub mod LineFeeds
pub mod Lines
pub mod Rule
pub mod Inputs
pub mod Said
pub mod Conditions
pub mod Tried
pub mod TurnedAway
pub mod Claims
pub mod Numbers
pub mod Brought
pub mod Rebuilt
