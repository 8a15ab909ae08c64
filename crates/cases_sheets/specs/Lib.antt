pub mod Loads
pub mod Records
pub mod Readers
pub mod Drafts
