-- Nets that differ by the names of their nodes.
pub mod Mapped
pub mod Renamed
pub mod ByPlace
pub mod Rows
pub mod NetPlaces
