pub mod Commands
pub mod CommandNames
pub mod Flags
pub mod Telling
pub mod Code
