pub mod Filled
pub mod Table
pub mod Named
pub mod Noted
