mod Branching
mod Firing
mod InMap
mod InOrder
pub mod Maps
mod Noting
mod Planning
