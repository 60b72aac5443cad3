pub mod Matched
pub mod Keyed
pub mod Sorted
pub mod Above
pub mod Copied
