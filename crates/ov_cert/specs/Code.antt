-- How the code computes a verdict and stores a set of nodes. The proofs relate this to the definitions, which do not
-- use it.
pub mod Kept
pub mod Tests
pub mod Flaws
pub mod FrameFlaws
