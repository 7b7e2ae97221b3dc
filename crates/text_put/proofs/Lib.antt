-- For users: texts put one after another.
pub mod Writers
