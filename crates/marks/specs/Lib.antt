pub mod Half
pub mod Marks
pub mod Exact
pub mod inner
