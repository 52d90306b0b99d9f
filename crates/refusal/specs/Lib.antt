pub mod Refused
pub mod Named
