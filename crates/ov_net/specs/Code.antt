-- What private contracts and proofs use.
pub mod Refusals
pub mod Effects
pub mod LinkChanges
pub mod WorldGraph
pub mod Codes
