pub mod Machine
pub mod View
pub mod Runs
pub mod Readings
pub mod ReadsBack
