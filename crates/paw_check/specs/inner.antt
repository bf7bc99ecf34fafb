-- Words of contracts between crates, and of proofs. What a reader must believe doesn't reach them.
pub mod Condacts
pub mod Capped
pub mod Own
pub mod Within
pub mod Spots
pub mod Found
pub mod Levels
pub mod Reached
pub mod Texts
pub mod Verdicts
