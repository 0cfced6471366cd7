pub mod Marked
pub mod Run
pub mod OlderRun
