pub mod Step
pub mod Running
pub mod Projected
pub mod Kept
pub mod Drawn
pub mod Charged
