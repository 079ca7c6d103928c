-- Expressions are read exactly.
pub mod Spelled
pub mod Read
pub mod Whole
