pub mod FieldTexts
pub mod FileLines
pub mod Named
