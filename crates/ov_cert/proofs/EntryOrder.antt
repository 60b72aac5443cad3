-- The expected entries, and the order in which entries are judged.
pub mod Finding
pub mod Columns
pub mod Looping
pub mod Listed
