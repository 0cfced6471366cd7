-- What callers' proofs cite of this crate, and what several of its own do.
pub mod Laws
pub mod Told
pub mod ReadsBack
