pub mod Sizes
pub mod Unpacking
pub mod Promise
pub mod Pairs
pub mod StartsExported
