pub mod Answers
pub mod Labels
pub mod Groups
pub mod Steps
