-- Words of contracts between crates, and of proofs. What a reader must believe doesn't reach them.
pub mod OpenTables
pub mod Meaning
pub mod Moves
pub mod Steps
pub mod Objects
pub mod Phrases
pub mod Work
pub mod Running
pub mod AfterCondact
pub mod Kept
