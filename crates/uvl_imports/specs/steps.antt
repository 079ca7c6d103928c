-- What the steps of the code answer, said again for the proofs. Only private contracts cite it.
pub mod Answers
pub mod Growing
