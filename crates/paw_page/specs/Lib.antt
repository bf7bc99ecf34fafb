pub mod Request
pub mod Stands
pub mod Reply
pub mod Answers
pub mod inner
