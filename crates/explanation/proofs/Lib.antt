pub mod PlaceTexts
pub mod Left
