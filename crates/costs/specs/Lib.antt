pub mod Costs
pub mod Models
pub mod Compare
