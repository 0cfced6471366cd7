pub mod Layout
pub mod Ring
pub mod Booleans
pub mod Captures
pub mod Alarms
pub mod Scan
pub mod Steps
pub mod Lent
