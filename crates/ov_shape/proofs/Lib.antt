pub mod ShapeOfGraph
