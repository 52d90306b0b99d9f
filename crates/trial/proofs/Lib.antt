pub mod Running
pub mod Trying
pub mod Spared
pub mod Added
pub mod ConditionB
