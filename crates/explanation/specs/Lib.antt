pub mod Places
pub mod Explained
pub mod Left
-- what the crate's own functions cite
pub mod Tabled
