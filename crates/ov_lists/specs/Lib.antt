pub mod Building
pub mod Listed
pub mod Code
