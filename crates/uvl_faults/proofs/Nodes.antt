-- The nodes of rules, by their tokens and by their trees.
pub mod Kinds
pub mod Counting
pub mod Rules
pub mod Limits
pub mod Lines
pub mod Entries
pub mod Trees
pub mod Outside
pub mod Braces
pub mod Clear
