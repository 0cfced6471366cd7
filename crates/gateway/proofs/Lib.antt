-- What callers' proofs cite of this crate, and what several of its own do.
pub mod Answers
pub mod Zeros
pub mod Drafts
pub mod Settings
pub mod Valid
pub mod Scans
pub mod Polls
