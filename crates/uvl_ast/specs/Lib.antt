pub mod Depth
pub mod Members
pub mod Nesting
pub mod Rules
pub mod Nodes
pub mod Operands
pub mod Keys
pub mod Texts
