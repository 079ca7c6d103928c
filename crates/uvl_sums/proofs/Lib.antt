pub mod SettledLemmas
pub mod TotalLemmas
pub mod AddsLemmas
pub mod PartLemmas
pub mod DescendLemmas
pub mod MemoLemmas
pub mod StepLemmas
pub mod CompileLemmas
