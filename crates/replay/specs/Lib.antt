-- What a recording's lines do to a replay: Recordings. The settle numbers that its comparison leaves out: Numbers.
pub mod Recordings
pub mod Numbers
