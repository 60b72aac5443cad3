-- What a row of bits has.
pub mod Lower
pub mod Outside
pub mod Listing
pub mod Counting
