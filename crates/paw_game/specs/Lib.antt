pub mod Game
pub mod Valid
pub mod Image
pub mod Tables
pub mod inner
