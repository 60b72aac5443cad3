pub mod Members
pub mod Moved
pub mod Sets
pub mod Rising
pub mod Cases
pub mod Stepping
pub mod Scales
