pub mod Decisions
pub mod Explanation
pub mod Session
pub mod Opening
pub mod Deciding
pub mod Retracting
pub mod Reasons
pub mod Laws
