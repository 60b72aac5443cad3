-- What only private functions and proofs need: how contracts see a core, and how the code finds reports.
pub mod Codes
pub mod Kept
pub mod Index
