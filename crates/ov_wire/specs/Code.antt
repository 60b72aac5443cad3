-- Used by private contracts and proofs only.
pub mod Reading
pub mod Meaning
