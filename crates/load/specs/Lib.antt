pub mod Loads
pub mod Clear
