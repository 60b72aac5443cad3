pub mod File
pub mod KeptRows
pub mod Lines
pub mod RowFiles
