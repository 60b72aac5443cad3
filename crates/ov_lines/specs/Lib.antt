pub mod Code
pub mod FileKinds
pub mod Lines
