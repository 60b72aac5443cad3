pub mod Histories
pub mod Passes
pub mod Faults
pub mod Theorems
pub mod Code
