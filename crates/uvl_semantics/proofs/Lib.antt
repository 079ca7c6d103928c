pub mod Examples
pub mod Membership
pub mod NoProduct
pub mod Sets
