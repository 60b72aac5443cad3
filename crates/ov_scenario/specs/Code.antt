-- What only the contracts of private functions use. A reader of the public contracts need not rely on it.
pub mod Ahead
pub mod Judging
pub mod Reading
pub mod RunnableLines
pub mod WordSources
