pub mod Accepted
pub mod OfReader
pub mod Reports
pub mod Writing
