pub mod AttemptState
pub mod Parting
