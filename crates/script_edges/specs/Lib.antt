-- What the program does to a driver.
pub mod Plays
