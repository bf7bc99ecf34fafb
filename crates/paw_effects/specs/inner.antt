-- Definitions for contracts between crates, and for proofs. Nothing that a reader must believe rests on them.
pub mod Parameters
pub mod Worlds
pub mod Opening
pub mod Standing
pub mod Done
pub mod Listing
pub mod Meant
