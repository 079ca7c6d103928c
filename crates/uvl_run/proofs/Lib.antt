-- Lemmas on models that are loaded and compiled, on what a run says, and on when each status comes.
pub mod Exactly
pub mod Found
pub mod InMemory
pub mod LoadedOnce
pub mod Loads
pub mod Marking
pub mod NameList
pub mod Nine
pub mod Placed
pub mod Runs
pub mod Told
pub mod Variables
