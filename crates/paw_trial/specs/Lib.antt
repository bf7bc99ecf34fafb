pub mod Trial
pub mod inner
