-- That the words of the command line are read as they are defined.
pub mod Budgets
pub mod Forms
pub mod Fronts
pub mod LoneHyphens
pub mod Matching
pub mod Reading
pub mod Refusals
pub mod Walks
