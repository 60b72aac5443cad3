pub mod Steps
pub mod Numbers
pub mod Fields
pub mod Faults
pub mod Messages
pub mod Made
pub mod Decoded
pub mod Ranges
