pub mod Lists
pub mod Freshness
pub mod Turns
pub mod Goings
pub mod Ends
