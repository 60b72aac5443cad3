-- One path more, by residual steps.
pub mod Lists
pub mod Move
pub mod Trace
pub mod Prune
pub mod Stuck
pub mod Search
