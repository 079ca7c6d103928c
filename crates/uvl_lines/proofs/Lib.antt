-- Lemmas on lines, on what answers them, and on how far a script has been read.
pub mod Cutting
pub mod FirstLine
pub mod Kept
pub mod Runs
pub mod Told
pub mod Answering
pub mod Progress
pub mod SoFar
