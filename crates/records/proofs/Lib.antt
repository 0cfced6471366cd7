-- What callers' proofs cite of this crate, and what several of its own do.
pub mod Bits
pub mod Laws
pub mod Found
