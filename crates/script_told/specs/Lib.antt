pub mod Turns
pub mod Scripts
pub mod inner
