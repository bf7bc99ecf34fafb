pub mod Time
pub mod Names
pub mod Attaches
pub mod Counted
mod Logs
mod Replays
mod Prefixes
mod Writes
mod Disks
mod Sees
mod Stores
mod Leaves
mod Calls
mod Lines
mod Consumed
mod FirstLine
mod Gathered
mod LineParts
mod Appended
