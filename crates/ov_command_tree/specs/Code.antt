-- What private contracts use.
pub mod Options
