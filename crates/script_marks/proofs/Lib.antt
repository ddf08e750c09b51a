pub mod ByCase
pub mod Back
pub mod Lengths
