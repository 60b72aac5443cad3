-- What the code computes. The proofs relate this to the definitions, which do not use it.
pub mod Nets
pub mod Kept
pub mod Dispatched
