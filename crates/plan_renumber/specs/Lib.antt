pub mod Renumber
pub mod inner
