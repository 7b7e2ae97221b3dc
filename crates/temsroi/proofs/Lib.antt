-- LentBuffers: a sheet read from a buffer and left in it, an answer left. Made: what a call leaves. Outcomes: that it is one thing.
-- Feeds: no call has a line feed. Alike: a driver and the one that its sheet shows leave the same. Hosts: lists of calls.
pub mod LentBuffers
pub mod Made
pub mod Outcomes
pub mod Feeds
pub mod Alike
pub mod Hosts
