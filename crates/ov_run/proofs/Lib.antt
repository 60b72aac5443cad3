pub mod Blocks
pub mod OfReader
pub mod Printing
pub mod Recent
pub mod Recorded
pub mod Refused
