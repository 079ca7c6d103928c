-- What the steps of the code do, said again for the proofs. Only private contracts cite it.
pub mod Rules
pub mod Walk
pub mod Placements
