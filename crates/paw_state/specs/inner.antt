-- Words of contracts between crates, and of proofs. What a reader must believe doesn't reach them.
pub mod Writer
pub mod Shapes
pub mod Fields
pub mod State
pub mod Faults
pub mod Parts
pub mod Fit
pub mod Laws
