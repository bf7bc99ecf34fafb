pub mod Lines
pub mod Stops
pub mod Comes
pub mod Counts
