-- Reports of a scenario.
pub mod BlockSteps
pub mod Filed
pub mod ReportState
