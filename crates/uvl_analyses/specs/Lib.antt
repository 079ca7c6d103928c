pub mod Analyses
pub mod Members
pub mod Compiled
pub mod Listed
