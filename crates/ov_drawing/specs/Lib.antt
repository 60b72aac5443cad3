pub mod Classes
pub mod Chosen
pub mod Drawn
pub mod Faults
pub mod Code
