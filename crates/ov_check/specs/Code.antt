-- What the contracts of private functions cite. No definition of a public contract uses it.
pub mod Threads
