pub mod Limits
pub mod Fields
pub mod Messages
pub mod Faults
pub mod Theorems
pub mod Code
