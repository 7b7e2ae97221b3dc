-- For users: Kept, a driver in form that meets the rules keeps the invariant and shows just itself.
pub mod Waiters
pub mod Kept
