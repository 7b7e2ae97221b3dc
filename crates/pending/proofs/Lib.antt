-- For users: LineFeeds, where a line feed stands; Held, what is held of a line. Keeping is the loop of `keep`.
pub mod LineFeeds
pub mod Held
pub mod Keeping
