pub mod Pending
pub mod Phrase
pub mod Sentence
pub mod inner
