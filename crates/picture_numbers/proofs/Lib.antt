pub mod ByCase
pub mod Cases
pub mod Lengths
pub mod Times
