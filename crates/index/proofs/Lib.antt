pub mod Lists
pub mod Bounds
pub mod Places
pub mod Flagged
