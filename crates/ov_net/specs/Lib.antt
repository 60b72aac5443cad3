pub mod Limits
pub mod Net
pub mod Journal
pub mod Theorems
pub mod NetStep
pub mod Refusals
pub mod World
pub mod Code
