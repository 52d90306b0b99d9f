pub mod Since
pub mod Loading
pub mod Units
pub mod Meets
