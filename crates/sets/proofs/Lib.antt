pub mod MetSets
pub mod Bits
pub mod Masks
pub mod Marking
pub mod Stage
