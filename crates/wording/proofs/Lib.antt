pub mod Pieces
pub mod Escapes
pub mod FirstWrong
