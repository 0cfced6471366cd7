-- What the proofs of every other crate may cite.
pub mod Tests
pub mod Lists
