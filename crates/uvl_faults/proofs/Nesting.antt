-- How deep brackets and `!` nest in what a file without named faults spells.
pub mod Tokens
pub mod Limit
pub mod Shapes
pub mod Values
pub mod Rules
pub mod Trees
pub mod Files
