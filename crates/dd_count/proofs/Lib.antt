pub mod CountedLemmas
pub mod LevelsLemmas
pub mod StatesLemmas
pub mod MembersLemmas
