pub mod Calls
pub mod Scan
pub mod Poll
