-- How the code finds the class of a node and the path that goes along a link. The proofs relate this to the
-- definitions, which do not use it.
pub mod Tables
pub mod Named
pub mod PathTests
