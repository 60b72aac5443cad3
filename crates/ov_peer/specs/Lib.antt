pub mod Limits
pub mod PeerState
pub mod Step
pub mod Faults
pub mod Planning
pub mod Code
