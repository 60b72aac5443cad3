pub mod Acts
pub mod WrittenLines
pub mod Scripts
pub mod Code
