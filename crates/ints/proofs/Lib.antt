pub mod FrontLaws
pub mod Laws
pub mod Lists
pub mod Members
pub mod Ratings
pub mod Reach
pub mod Refusals
pub mod Tests
