-- What private contracts and proofs use.
pub mod Residual
pub mod Rows
