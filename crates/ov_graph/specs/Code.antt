-- What the code computes, and how it keeps a graph. The proofs relate this to the definitions, which do not use it.
pub mod Kept
pub mod Listed
pub mod Dispatched
pub mod Shifts
pub mod Tests
