pub mod Limits
pub mod Model
pub mod Numbers
pub mod Valid
