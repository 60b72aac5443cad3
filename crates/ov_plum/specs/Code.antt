-- What private contracts and proofs use.
pub mod Codes
pub mod Waiting
