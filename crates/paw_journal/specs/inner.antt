-- Words of contracts between crates, and of proofs. What a reader must believe doesn't reach them.
pub mod Session
pub mod Room
pub mod Store
pub mod Written
pub mod Writes
pub mod Journal
pub mod Calls
