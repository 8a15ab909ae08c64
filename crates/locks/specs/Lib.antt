pub mod Places
pub mod Works
pub mod Targets
pub mod Steps
