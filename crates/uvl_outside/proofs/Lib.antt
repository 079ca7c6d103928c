-- Lemmas on what calls of the outside answer.
pub mod Pieces
pub mod Streams
