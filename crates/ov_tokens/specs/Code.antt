-- What only private functions and the proofs use.
pub mod Left
