-- Menger's theorem, and the nearest of the least cuts.
pub mod Near
pub mod Sole
pub mod FanForm
