-- The shape of a graph: sums, walks by layers, the largest component, clustering.
pub mod Sums
pub mod Counts
pub mod Walks
pub mod Adding
pub mod Layers
pub mod Searching
pub mod Largest
pub mod Passing
pub mod Subsets
pub mod Clusters
pub mod Shapes
