pub mod Laws
pub mod Stores
pub mod Exact
pub mod Acceptable
pub mod Cases
pub mod All
