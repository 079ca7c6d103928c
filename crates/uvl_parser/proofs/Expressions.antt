-- The loop over operators of expressions.
pub mod Operators
pub mod Ranks
pub mod Steps
pub mod Tails
