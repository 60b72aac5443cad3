pub mod EvenTest
pub mod BitRows
pub mod GraphValues
pub mod PlaceLists
