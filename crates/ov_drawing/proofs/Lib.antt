pub mod Along
pub mod Tabled
pub mod Parted
