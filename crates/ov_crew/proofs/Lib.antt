pub mod Taking
pub mod Hauling
pub mod Keeping
pub mod Trying
pub mod Gathering
pub mod Joining
pub mod Ascending
pub mod ByCopy
