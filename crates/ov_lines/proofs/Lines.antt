-- Lines, the words of a line, and the numbers that words spell.
pub mod Front
pub mod Kept
pub mod Lined
pub mod Numbers
pub mod Numerals
pub mod Parted
pub mod Spelling
pub mod Written
