pub mod GraphFiles
pub mod Faults
pub mod GraphTexts
pub mod Code
pub mod NameLines
pub mod NamesState
pub mod Groups
pub mod Theorems
