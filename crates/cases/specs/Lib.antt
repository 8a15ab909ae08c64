pub mod Formulas
pub mod Ports
pub mod Sheets
pub mod Ranks
pub mod Tolls
pub mod Policies
pub mod Errands
