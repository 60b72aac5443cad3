pub mod Flat
pub mod Counting
pub mod Exact
pub mod Seen
pub mod Histories
pub mod Alike
pub mod SoleHand
pub mod PassCalls
