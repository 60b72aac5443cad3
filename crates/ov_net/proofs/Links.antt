-- The links that both ends hold, kept as the views change or made of the views, and that they are one graph.
pub mod Changing
pub mod Kept
pub mod OneGraph
pub mod Scanned
