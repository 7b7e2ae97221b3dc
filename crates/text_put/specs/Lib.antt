-- Writers, what putting a text does to a writer.
pub mod Writers
