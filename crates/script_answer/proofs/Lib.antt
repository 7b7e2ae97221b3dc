-- For users: a view's line as it is put together.
pub mod Views
