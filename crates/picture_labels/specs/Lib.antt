pub mod Label
pub mod inner
