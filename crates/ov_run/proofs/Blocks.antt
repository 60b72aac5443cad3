-- Blocks of sections.
pub mod AllSections
pub mod Counting
pub mod Drivers
pub mod Jobs
pub mod SectionLines
