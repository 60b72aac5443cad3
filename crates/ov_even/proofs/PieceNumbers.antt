-- Pieces and their numbers.
pub mod Pairs
pub mod LevelPlaces
pub mod LevelSteps
pub mod AllLevels
pub mod Totals
pub mod Numbering
pub mod ByLevel
