pub mod Sums
pub mod Distances
pub mod ShortestPaths
pub mod Clustering
pub mod Degrees
pub mod Code
