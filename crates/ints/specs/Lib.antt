pub mod Ints
pub mod Lists
pub mod Ratings
pub mod Reach
pub mod Refusals
pub mod inner
