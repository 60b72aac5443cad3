-- When a certificate is valid.
pub mod Parting
pub mod Verdicts
pub mod SetFlaws
pub mod FrameFlaws
pub mod Exact
