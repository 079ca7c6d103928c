-- Each part of the grammar is read exactly: what a reader reads is spelled, and what is spelled is read.
pub mod Samples
pub mod Refs
pub mod Expressions
pub mod Values
pub mod Groups
pub mod Beginnings
pub mod Braces
pub mod Features
pub mod Sections
pub mod File
pub mod Endings
