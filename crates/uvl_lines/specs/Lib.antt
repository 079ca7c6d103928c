-- Words for the lines of a script: how it is cut, what its lines are answered, and how that ends.
pub mod Answers
pub mod Endings
pub mod Laws
pub mod Lines
pub mod Replies
pub mod Runs
pub mod steps
