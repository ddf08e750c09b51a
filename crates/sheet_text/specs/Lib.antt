pub mod Back
pub mod inner
