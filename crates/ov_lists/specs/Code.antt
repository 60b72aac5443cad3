pub mod Cut
pub mod Blocks
pub mod Dense
pub mod Kept
