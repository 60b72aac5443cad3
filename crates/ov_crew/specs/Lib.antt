pub mod Hauls
pub mod Code
