pub mod Number
pub mod Length
pub mod Code
