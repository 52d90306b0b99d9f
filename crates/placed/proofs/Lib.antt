pub mod Raising
pub mod Rows
pub mod Given
pub mod Filling
pub mod Bounding
