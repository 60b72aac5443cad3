-- What private contracts and proofs use.
pub mod Codes
pub mod GoodPlan
pub mod Messages
pub mod MovesPlan
