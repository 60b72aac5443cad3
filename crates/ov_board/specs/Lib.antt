pub mod Limits
pub mod Claims
pub mod Steps
pub mod Theorems
pub mod Board
pub mod Rule
pub mod Code
