pub mod Version
pub mod Exported
pub mod Unpacking
pub mod Promise
-- For the contract of `put_runs`.
pub mod Columns
