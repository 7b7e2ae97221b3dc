-- Prints and Scripts are the paper's: what a line prints, what a whole input prints. Parts is the helpers': a line's answer at the front of a buffer. Feeds is the
-- helpers': an input byte by byte, as reads bring it. Statements ties Feeds to Scripts.
pub mod Prints
pub mod Parts
pub mod Scripts
pub mod Feeds
pub mod Statements
