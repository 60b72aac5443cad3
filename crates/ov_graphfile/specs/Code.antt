-- What only the contracts of private functions use. A reader of the public contracts need not rely on it.
pub mod Bearers
pub mod Ids
pub mod Table
pub mod Told
pub mod UnreadAt
pub mod Owners
