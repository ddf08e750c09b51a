pub mod Marks
pub mod Positions
pub mod inner
