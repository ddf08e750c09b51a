pub mod Sort
pub mod Share
pub mod inner
