pub mod Telling
pub mod Withstanding
