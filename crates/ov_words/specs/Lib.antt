pub mod Pick
pub mod Stream
pub mod Code
