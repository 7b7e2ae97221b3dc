-- Values is the helpers'.
pub mod Values
