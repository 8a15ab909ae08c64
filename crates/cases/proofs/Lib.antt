pub mod Rows
pub mod Formulas
pub mod Sheets
pub mod Ranks
pub mod Costed
pub mod Policies
pub mod Tolls
pub mod Errands
