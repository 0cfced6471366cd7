pub mod Stamp
pub mod Capture
pub mod Record
pub mod Value
pub mod Lent
