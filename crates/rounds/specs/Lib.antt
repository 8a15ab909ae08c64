pub mod Rows
pub mod Tasks
pub mod Stages
pub mod Rounds
pub mod Verdicts
