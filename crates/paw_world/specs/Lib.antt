pub mod Draws
pub mod Weight
pub mod World
pub mod inner
