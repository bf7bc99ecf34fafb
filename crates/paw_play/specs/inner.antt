-- Words of contracts between crates, and of proofs. What a reader must believe doesn't reach them.
pub mod Calls
pub mod ShowSteps
pub mod Open
pub mod OnTheWay
