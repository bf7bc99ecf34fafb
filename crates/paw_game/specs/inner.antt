-- Definitions for contracts between crates, and for proofs. Nothing that a reader must believe rests on them.
pub mod Valid
pub mod Fault
pub mod Parts
pub mod Tables
pub mod Values
pub mod Rules
