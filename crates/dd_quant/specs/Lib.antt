pub mod Possible
pub mod Offers
pub mod Cause
pub mod steps
pub mod Support
pub mod Exists
