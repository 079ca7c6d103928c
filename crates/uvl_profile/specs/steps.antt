-- What the scan keeps of the tokens in front of a place.
pub mod Depth
pub mod Scan
