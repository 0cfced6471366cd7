-- What callers' proofs cite of this crate, and what several of its own do.
pub mod Layouts
pub mod Words
pub mod Rings
pub mod Scans
pub mod Turns
