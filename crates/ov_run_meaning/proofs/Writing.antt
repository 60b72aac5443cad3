-- What goes to a writer.
pub mod Outcomes
pub mod Packets
pub mod Prefixes
