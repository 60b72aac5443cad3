pub mod PhaseCosts
pub mod Rows
pub mod MessageRows
pub mod Sweeps
pub mod SweepFaults
pub mod Code
