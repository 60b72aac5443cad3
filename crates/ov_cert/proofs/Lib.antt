pub mod PathRules
pub mod EntryOrder
pub mod Validity
