-- Words of contracts between crates, and of proofs. What a reader must believe doesn't reach them.
pub mod GoingOn
pub mod Parts
pub mod Rules
pub mod Turn
pub mod Longer
pub mod Pieces
pub mod Bounds
pub mod Waits
pub mod Saving
pub mod Always
