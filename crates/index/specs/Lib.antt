pub mod Indexes
pub mod Indexed
