pub mod Choosing
pub mod KeptSets
pub mod Policies
pub mod Solutions
