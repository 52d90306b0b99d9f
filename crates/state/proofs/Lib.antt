pub mod Loops
pub mod Needs
pub mod Entries
pub mod Added
pub mod StateMeets
