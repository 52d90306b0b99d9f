pub mod Called
pub mod Promise
