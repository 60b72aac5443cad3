-- What one turn of a worker does, and what all workers have done. The definitions do not use it.
pub mod Turns
pub mod Crews
pub mod Parts
pub mod Ascending
pub mod Kept
