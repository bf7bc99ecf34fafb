-- Definitions for contracts between files, and for proofs. Nothing that a reader must believe rests on them.
pub mod Heads
pub mod Read
pub mod Standing
