pub mod View
pub mod Addresses
pub mod Frames
pub mod Lent
