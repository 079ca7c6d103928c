-- What the parser's private contracts cite: how its answers stand to the readers of the grammar.
pub mod Gives
pub mod Keeping
pub mod LayoutTokens
pub mod Openings
pub mod Precedence
pub mod Operators
pub mod LanguageLevels
