pub mod PartLaws
pub mod NumberLaws
pub mod Filling
pub mod Written
pub mod Cases
