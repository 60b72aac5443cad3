pub mod Cutting
pub mod Density
pub mod Joining
