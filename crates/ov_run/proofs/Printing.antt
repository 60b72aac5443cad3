-- What a scenario prints.
pub mod Ending
pub mod HandedOn
pub mod InBlocks
pub mod OneLine
pub mod Running
pub mod Settling
pub mod WholeRuns
