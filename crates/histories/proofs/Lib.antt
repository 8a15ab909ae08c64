pub mod Basics
pub mod Holds
pub mod Invariant
pub mod Joins
pub mod Policy
pub mod Rulings
