-- Paths and fans by tests and by relations.
pub mod NodeSets
pub mod Ends
pub mod Fresh
pub mod PathTests
pub mod FlawTests
pub mod FlawRules
