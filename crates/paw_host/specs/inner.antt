-- Words of contracts inside the crate, and of proofs. What a reader must believe doesn't reach them.
pub mod Names
pub mod Answers
pub mod Words
pub mod Opens
pub mod Lines
pub mod Seats
pub mod Store
