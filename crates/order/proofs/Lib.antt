pub mod Ordering
pub mod Finding
pub mod Fronts
