pub mod Reading
pub mod SheetOf
pub mod Theorems
