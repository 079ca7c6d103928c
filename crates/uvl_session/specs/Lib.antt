pub mod Numbered
pub mod Sessions
pub mod Answers
pub mod Desk
pub mod Deciding
