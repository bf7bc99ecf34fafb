pub mod Disk
pub mod Stage
pub mod Moments
pub mod AcrossCalls
pub mod Loads
pub mod inner
