pub mod Texts
pub mod Tangled
pub mod inner
