pub mod Calls
pub mod Errands
pub mod Promise
pub mod Refusals
