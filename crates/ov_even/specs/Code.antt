-- What the code computes. The proofs relate this to the definitions, which do not use it.
pub mod Levels
pub mod Trying
pub mod Narrowing
pub mod Cuts
pub mod Slots
pub mod Entries
pub mod KeptDesk
