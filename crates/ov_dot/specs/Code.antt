pub mod Scanning
pub mod Neighbours
pub mod TokenFaults
pub mod Diagram
pub mod PlaceReasons
pub mod Statements
pub mod Seen
pub mod Entered
