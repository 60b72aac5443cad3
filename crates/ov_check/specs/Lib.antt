pub mod Faults
pub mod Outcome
pub mod Line
pub mod Run
pub mod Program
pub mod Parallel
pub mod Code
