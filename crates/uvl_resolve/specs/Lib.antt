pub mod Under
pub mod Flat
pub mod Faults
pub mod Laws
pub mod steps
