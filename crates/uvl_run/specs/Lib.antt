-- Words for a run of the program: what is handed in, the state, the replies, the statuses, and what a run says.
pub mod Budget
pub mod Exactly
pub mod InMemory
pub mod Laws
pub mod Loading
pub mod Models
pub mod NameList
pub mod Outside
pub mod Products
pub mod Replies
pub mod Run
pub mod State
pub mod Status
pub mod YesOrNo
pub mod steps
