pub mod Held
pub mod Stages
pub mod Rounds
pub mod Ports
