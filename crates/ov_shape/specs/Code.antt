-- What a search from one node found, and the shape of a graph.
pub mod Found
