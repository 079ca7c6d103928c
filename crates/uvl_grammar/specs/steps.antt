-- The grammar again as functions: the readers of its parts, which a parser computes.
pub mod Tests
pub mod Reading
pub mod Refs
pub mod Expressions
pub mod Values
pub mod Groups
pub mod Braces
pub mod Features
pub mod Sections
pub mod File
