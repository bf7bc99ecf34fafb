-- Definitions for contracts between crates, and for proofs. Nothing that a reader must believe rests on them.
pub mod Groups
pub mod Milestones
pub mod Images
pub mod Marks
pub mod Numbers
pub mod Offsets
pub mod Orders
pub mod Reading
pub mod Rows
pub mod Sizes
pub mod Views
pub mod Words
