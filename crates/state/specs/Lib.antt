pub mod Standing
pub mod Own
pub mod Spoils
pub mod Judging
pub mod State
