-- Hashes as text. Texts, how they are written; LineHashes, what a word of a line says; SheetHashes, what a word of a sheet says; Cases,
-- lines that differ in the case of hash digits only; Hex, the digits; Statements, which words are hashes.
pub mod Hex
pub mod Texts
pub mod LineHashes
pub mod SheetHashes
pub mod Cases
pub mod Statements
