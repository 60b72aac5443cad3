pub mod Flow
pub mod Code
