pub mod Fault
pub mod Identifier
pub mod Limits
pub mod Name
pub mod Number
pub mod ReservedWords
