pub mod Escape
pub mod Rows
pub mod inner
