pub mod Bytes
pub mod Grammar
pub mod Truth
