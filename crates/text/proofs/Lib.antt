pub mod Put
pub mod Decimal
pub mod Splits
pub mod Digits
pub mod Items
pub mod Same
pub mod Numbers
