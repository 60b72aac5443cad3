-- What only the contracts of private functions and the proofs use.
pub mod Reading
pub mod Writing
pub mod Tokens
pub mod Content
