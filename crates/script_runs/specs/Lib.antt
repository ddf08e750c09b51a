pub mod Lists
pub mod Names
pub mod Runs
pub mod inner
