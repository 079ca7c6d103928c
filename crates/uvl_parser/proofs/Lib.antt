pub mod Parsed
pub mod Once
pub mod Answers
pub mod Turns
pub mod Keeping
pub mod Expressions
pub mod LevelTexts
pub mod Within
