pub mod Budgets
pub mod CommandLine
pub mod CommandLineForms
pub mod CommandLineRules
pub mod Requests
