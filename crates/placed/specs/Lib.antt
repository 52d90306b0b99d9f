pub mod Tables
pub mod Written
pub mod Held
pub mod Bounds
pub mod Raised
