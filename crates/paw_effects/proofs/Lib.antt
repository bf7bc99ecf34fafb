mod Underscores
mod Printing
mod Parameters
mod KnownCodes
mod Meant
mod Rows
mod Carried
pub mod EachRow
mod Moves
mod Searching
pub mod Asking
pub mod Placed
mod NextListed
mod Facts
pub mod Worlds
pub mod Changes
pub mod Saving
pub mod Actions
