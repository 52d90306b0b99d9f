pub mod Formed
pub mod Forms
