-- Walks, and that Even's test suffices.
pub mod Tested
pub mod Filtered
pub mod Walks
pub mod Escape
pub mod Sufficing
