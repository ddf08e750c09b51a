pub mod Measure
pub mod View
pub mod Inside
pub mod inner
