pub mod Counting
pub mod Largest
