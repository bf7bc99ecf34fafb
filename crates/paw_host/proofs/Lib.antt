mod Cited
pub mod Played
pub mod Staying
pub mod Texts
pub mod Named
pub mod Reaching
pub mod Leaving
pub mod Serving
pub mod Answering
pub mod Keeping
pub mod Hosting
pub mod Continuing
pub mod Loading
pub mod Alone
pub mod Crashing
