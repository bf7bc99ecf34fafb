-- Definitions for contracts between crates, and for proofs. Nothing that a reader must believe rests on them.
pub mod Gives
