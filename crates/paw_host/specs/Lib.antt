pub mod Names
pub mod Replies
pub mod Promise
pub mod Outcomes
pub mod Words
pub mod Hosts
pub mod Laws
pub mod inner
