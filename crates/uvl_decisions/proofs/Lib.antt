pub mod Agreeing
pub mod Forcing
pub mod Least
pub mod Explaining
pub mod Examples
pub mod Keeping
