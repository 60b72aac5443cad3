pub mod Components
pub mod Theorems
pub mod Code
