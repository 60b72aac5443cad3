-- What private contracts and proofs use.
pub mod Making
