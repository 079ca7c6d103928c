pub mod Among
pub mod RowFunctions
pub mod Trades
pub mod HandleLemmas
pub mod TreeLemmas
pub mod Marked
pub mod StepLemmas
pub mod SameLemmas
