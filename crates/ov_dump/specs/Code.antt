-- What only the contracts of private functions use. A reader of the public contracts need not rely on it.
pub mod InOrder
pub mod Judging
pub mod Taking
pub mod Numbering
pub mod Listed
pub mod Reading
