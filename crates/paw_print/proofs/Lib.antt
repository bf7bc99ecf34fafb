pub mod FirstWords
pub mod Growing
pub mod Indirect
pub mod KnownCodes
pub mod TextLines
