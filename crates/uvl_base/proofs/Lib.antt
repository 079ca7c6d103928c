pub mod Digits
pub mod Fronts
pub mod Quoting
pub mod Texts
