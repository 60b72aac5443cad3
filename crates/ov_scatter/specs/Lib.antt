pub mod Renaming
pub mod Theorems
pub mod Code
