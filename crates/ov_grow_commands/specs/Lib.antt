pub mod GrowFaults
pub mod Growing
pub mod KeptRows
pub mod WrittenRows
pub mod Code
