pub mod SplitNetState
pub mod Places
pub mod Placed
pub mod Theorems
pub mod Code
