pub mod Courses
pub mod Done
pub mod Handled
pub mod Opened
pub mod Outed
pub mod Requests
pub mod Ruled
