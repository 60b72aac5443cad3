pub mod Rows
pub mod Grown
pub mod Divided
pub mod Surviving
