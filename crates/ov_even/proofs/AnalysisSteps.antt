-- The steps of an analysis, and the certificate that is made of them.
pub mod FirstCut
pub mod Slotted
pub mod Trials
pub mod FirstMembers
pub mod Failing
pub mod Bounding
pub mod Narrowing
pub mod Tries
pub mod Named
pub mod Entered
pub mod Assembling
pub mod ByNumbers
pub mod Outlining
