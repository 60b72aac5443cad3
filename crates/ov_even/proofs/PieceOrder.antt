-- The order of pieces, level by level.
pub mod PieceLevels
pub mod Ordering
pub mod Placing
pub mod InOrder
pub mod Columns
pub mod Comparing
