pub mod Standing
pub mod Outcomes
pub mod Going
