pub mod Bytes
pub mod Condacts
pub mod inner
