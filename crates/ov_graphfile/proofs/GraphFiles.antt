-- The lines of a graph file.
pub mod Faults
pub mod Finding
pub mod Gathering
pub mod LineByLine
pub mod Numbers
pub mod Unread
