pub mod Counts
pub mod Faults
pub mod ValidGames
pub mod Matches
pub mod Meanings
pub mod Right
pub mod Search
pub mod TableOfValues
