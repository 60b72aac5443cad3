-- What only the contracts of private functions and the proofs use. A reader of the public contracts need not rely on
-- it.
pub mod Keys
