-- The net of a piece, and its paths.
pub mod Ranks
pub mod Routes
pub mod Aimed
pub mod Settling
pub mod MemberPlaces
pub mod Ended
