-- Even's test by pieces: the first piece that is not good decides.
pub mod Cutting
pub mod Splitting
pub mod Passing
pub mod Complete
pub mod Firsts
pub mod Deciding
pub mod Answering
pub mod Searching
