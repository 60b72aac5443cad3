pub mod Showing
pub mod Defaults
