pub mod Kinds
pub mod Entries
pub mod Drafts
pub mod Admission
