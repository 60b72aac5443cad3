pub mod Draws
pub mod EventWords
pub mod Faults
pub mod Statements
pub mod Scenarios
pub mod RunLines
pub mod Sections
pub mod Code
