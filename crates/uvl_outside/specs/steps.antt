-- What private contracts cite of the edges to the host.
pub mod Absence
