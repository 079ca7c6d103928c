pub mod Variables
pub mod Meaning
pub mod Lists
pub mod Examples
