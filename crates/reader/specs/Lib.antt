pub mod Frame
pub mod Answers
pub mod Stretch
pub mod ReadsBack
