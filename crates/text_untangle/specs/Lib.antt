pub mod Untangled
pub mod Text
pub mod inner
