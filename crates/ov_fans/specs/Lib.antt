pub mod Group
pub mod Pieces
pub mod Cuts
pub mod Counts
pub mod Theorems
pub mod Code
