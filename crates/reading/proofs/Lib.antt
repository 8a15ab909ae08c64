pub mod Steps
pub mod Words
pub mod Limited
pub mod Whole
pub mod Sound
pub mod Keeps
pub mod Complete
