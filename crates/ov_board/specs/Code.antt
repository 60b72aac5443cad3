-- What private contracts and proofs use.
pub mod Kept
pub mod Rule
