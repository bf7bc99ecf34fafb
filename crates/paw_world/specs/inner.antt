-- Definitions for contracts between crates, and for proofs. Nothing that a reader must believe rests on them.
pub mod Draws
pub mod ObjectSet
pub mod PlaceSets
pub mod Places
pub mod Weight
pub mod World
