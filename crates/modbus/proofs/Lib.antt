-- What callers' proofs cite of this crate, and what the proof of `crc_of` cites.
pub mod Laws
pub mod Steps
