pub mod Walk
pub mod ByLists
pub mod Lengths
