pub mod Steps
pub mod Journal
pub mod Messages
pub mod Links
pub mod OneStep
mod Standing
mod Keeping
