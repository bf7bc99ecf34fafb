pub mod Breaking
pub mod Fewest
pub mod LineWidths
pub mod Scanning
pub mod Undoing
