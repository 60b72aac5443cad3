mod Linking
mod Counts
mod Changing
pub mod Steps
pub mod Following
mod Handed
