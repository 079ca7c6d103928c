pub mod Few
pub mod Placed
pub mod ShortLemmas
pub mod TableLemmas
pub mod LiteralLemmas
