pub mod Fronts
pub mod Sorts
pub mod Scopes
pub mod Scanned
