-- The cuts of a piece.
pub mod Parted
pub mod Refuted
pub mod Short
pub mod Only
pub mod Decided
