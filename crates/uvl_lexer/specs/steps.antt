-- What the reader of a text does, said step by step: private contracts alone cite it.
pub mod Bytes
pub mod Reading
pub mod Spellings
pub mod Turns
