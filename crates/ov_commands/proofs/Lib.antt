pub mod Printed
pub mod Listed
pub mod Alarms
