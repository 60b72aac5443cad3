pub mod Firsts
pub mod Placed
pub mod Outcomes
pub mod Running
pub mod Verdicts
