pub mod LineAt
pub mod Said
pub mod Placeable
pub mod Props
pub mod View
pub mod Reading
pub mod Reached
pub mod Misplaced
