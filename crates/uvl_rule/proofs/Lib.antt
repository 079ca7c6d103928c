pub mod ComparisonLemmas
pub mod ClimbLemmas
pub mod MeaningLemmas
pub mod PartLemmas
pub mod ReadableLemmas
pub mod RunLemmas
pub mod SpineLemmas
pub mod ValueLemmas
