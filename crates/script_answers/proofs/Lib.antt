pub mod ByCase
pub mod MarkLine
pub mod Lengths
pub mod Cases
