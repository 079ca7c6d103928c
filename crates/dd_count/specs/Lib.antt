pub mod Cardinality
pub mod Members
pub mod Levels
pub mod States
