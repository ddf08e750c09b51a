pub mod TableLaws
pub mod Whole
pub mod Cases
