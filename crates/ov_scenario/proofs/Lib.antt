pub mod Lines
pub mod Scenarios
