-- What private functions do, in their own terms.
pub mod Compiled
pub mod Found
pub mod Loads
pub mod Says
