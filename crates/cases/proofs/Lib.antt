pub mod Check
pub mod Ran
