pub mod Augmenting
pub mod FanTheorem
pub mod ByNames
