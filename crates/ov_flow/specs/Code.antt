-- What private contracts and proofs use.
pub mod Flat
pub mod Reached
pub mod Walked
pub mod Stamped
pub mod Held
