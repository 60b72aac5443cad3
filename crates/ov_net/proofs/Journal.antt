-- The journal tells the views of the nodes.
pub mod After
pub mod Tracked
pub mod Outcomes
pub mod Telling
pub mod Resting
