pub mod Plans
pub mod Simulation
pub mod Domains
pub mod Iterate
pub mod Reach
pub mod Flags
pub mod Theorems
