-- What only the contracts of private functions use. A reader of the public contracts need not rely on it.
pub mod Outcomes
pub mod Failing
pub mod Jobs
pub mod Recent
