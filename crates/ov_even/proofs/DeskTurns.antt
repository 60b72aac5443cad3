-- Workers that take turns at a desk: what each turn keeps, and what has been decided when all have ended.
pub mod Deciding
pub mod Keeping
pub mod Settling
pub mod Staying
pub mod Turned
pub mod Workers
