pub mod Commands
pub mod Faults
pub mod Lines
pub mod Words
pub mod steps
