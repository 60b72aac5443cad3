pub mod Bounding
pub mod Naming
