-- What the steps of the code do, said again for the proofs. Only private contracts cite it.
pub mod Operands
pub mod Lines
pub mod Offers
pub mod Walk
pub mod Files
pub mod Keys
