pub mod Damage
pub mod Images
pub mod Reading
pub mod inner
