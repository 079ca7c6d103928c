pub mod Lines
pub mod Sections
pub mod Nesting
pub mod Rules
pub mod Met
pub mod First
pub mod steps
