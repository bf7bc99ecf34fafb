pub mod Digits
pub mod Entries
pub mod Steps
pub mod Indirect
pub mod Skips
