pub mod Characters
pub mod Commands
pub mod Cutting
pub mod Grammar
pub mod LineEnds
pub mod Pieces
pub mod Reading
