-- What private functions do, in their own terms.
pub mod Marked
pub mod Given
pub mod Walk
pub mod Noted
pub mod Remembered
pub mod Seen
pub mod Replaced
