pub mod Words
pub mod Shown
pub mod FirstWrong
-- how the functions of this crate and of `explanation` write
pub mod Writing
