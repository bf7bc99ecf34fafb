mod Names
mod Doing
pub mod Halts
mod ShownSteps
pub mod Walking
mod States
pub mod Kept
mod Written
pub mod Opened
mod Following
mod Lines
pub mod Playing
mod Beginning
pub mod Parts
pub mod Attaching
pub mod Resuming
pub mod Showing
pub mod Reopening
mod Again
mod Rounds
pub mod Going
pub mod Settling
pub mod Standing
mod Older
pub mod Digits
pub mod ImageFiles
pub mod Failing
