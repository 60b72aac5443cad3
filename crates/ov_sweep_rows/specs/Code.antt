-- What only the contracts of private functions use. A reader of the public contracts need not rely on it.
pub mod Groups
pub mod Named
pub mod Taking
pub mod Written
pub mod Standing
