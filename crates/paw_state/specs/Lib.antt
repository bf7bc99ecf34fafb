pub mod Fields
pub mod State
pub mod Fit
pub mod inner
