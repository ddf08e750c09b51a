pub mod Chars
pub mod Names
pub mod inner
