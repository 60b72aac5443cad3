-- Links kept as lists of places.
pub mod Growing
pub mod Reading
pub mod Seeking
