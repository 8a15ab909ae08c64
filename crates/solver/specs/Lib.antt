pub mod Choices
pub mod Policy
pub mod Solving
