pub mod FormLemmas
pub mod PlainLemmas
pub mod Products
pub mod Remaining
pub mod ValueLemmas
