pub mod Bind
pub mod inner
