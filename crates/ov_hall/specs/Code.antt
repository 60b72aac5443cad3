-- What only private functions and proofs need: the rule of the count, and how values are encoded.
pub mod Codes
pub mod Rules
