pub mod Comparisons
pub mod Connectives
pub mod Run
pub mod Spine
