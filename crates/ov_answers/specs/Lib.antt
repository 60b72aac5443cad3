pub mod Analysing
pub mod Lines
pub mod Telling
pub mod Code
pub mod Fewer
