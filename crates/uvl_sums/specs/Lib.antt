pub mod Sums
pub mod Steps
pub mod Settled
pub mod Parts
