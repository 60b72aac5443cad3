pub mod Faults
pub mod Ids
pub mod Notes
pub mod PlumState
pub mod PlumRows
pub mod PlumChange
pub mod Code
