-- What views, invariants of types, private contracts and proofs use. A reader of the public contracts need not rely
-- on it.
pub mod KeptRecording
pub mod Logging
pub mod Standing
pub mod Counting
