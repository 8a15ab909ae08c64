pub mod Controllers
pub mod Handlings
pub mod Numbers
pub mod Outings
pub mod Rulings
pub mod States
pub mod Worlds
