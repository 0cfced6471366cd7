-- The claim about whole lists of calls, and what a reader quotes of it.
pub mod Memory
pub mod Steps
pub mod Start
pub mod Scan
pub mod Polls
pub mod Whole
pub mod Exists
pub mod Words
pub mod Sources
pub mod Replies
pub mod ReadsBack
