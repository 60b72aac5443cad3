pub mod Device
pub mod Name
pub mod Refusal
pub mod Code
