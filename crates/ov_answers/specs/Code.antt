-- What only the contracts of private functions and the proofs use. A reader of the public contracts need not rely on
-- it.
pub mod Begun
pub mod Files
pub mod Sentences
pub mod GivenNames
pub mod Left
pub mod TextFaults
pub mod ToldOfGraph
