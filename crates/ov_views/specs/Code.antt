-- What proofs and private functions alone cite.
pub mod ChangeOrder
pub mod LeftOf
