pub mod Run
pub mod Reading
pub mod GoingOn
pub mod Turn
pub mod Bounds
pub mod Waits
pub mod Saving
pub mod inner
