pub mod Allowed
pub mod Ended
