-- Links kept as rows of bits.
pub mod Bits
pub mod Halving
pub mod Marked
pub mod Read
pub mod Shifts
