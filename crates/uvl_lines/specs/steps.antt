-- What private functions do, in their own terms.
pub mod Answering
pub mod FirstLine
pub mod Kept
