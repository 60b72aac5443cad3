-- What the lines of a file say together.
pub mod Asked
pub mod Counted
pub mod Drawn
pub mod Drivers
pub mod InBlock
pub mod Judged
pub mod OneFault
pub mod OneScenario
pub mod Outputs
pub mod Readable
pub mod Settled
