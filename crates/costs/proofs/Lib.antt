pub mod Order
pub mod Sums
