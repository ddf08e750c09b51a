pub mod CharLaws
pub mod NameLaws
pub mod Sizes
pub mod Cases
