-- What one line says.
pub mod Ending
pub mod Filling
pub mod Settings
pub mod Short
