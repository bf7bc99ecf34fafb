pub mod Rows
pub mod Computed
pub mod Truths
pub mod Valids
pub mod Shorts
