-- Graphs as values: when two are equal, and how one changes.
pub mod Alike
pub mod Grouped
pub mod ChangedLinks
pub mod ChangedNodes
pub mod OneGraph
pub mod OneMoreLink
