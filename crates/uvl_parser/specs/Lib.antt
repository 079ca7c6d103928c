pub use Rattle.uvl_grammar.specs.File
pub use Rattle.uvl_grammar.specs.Dead
pub use Rattle.uvl_grammar.specs.Law
pub use Rattle.uvl_faults.specs.Named
pub mod Parsing
pub mod Limits
pub mod steps
