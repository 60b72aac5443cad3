-- What only the contracts of private functions and the proofs use.
pub mod Blocks
pub mod Parts
pub mod Placed
pub mod Writing
