pub mod Exits
pub mod Steps
pub mod Language
pub mod Truths
