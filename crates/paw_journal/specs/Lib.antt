pub mod Session
pub mod Journal
pub mod inner
