pub mod Splitting
pub mod OneLine
mod Behind
pub mod Statements
pub mod TellingLines
mod KeepingText
mod Opening
mod Appending
mod KeepingLines
