pub mod Means
pub mod SplitBounds
