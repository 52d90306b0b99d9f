pub mod ByPlace
