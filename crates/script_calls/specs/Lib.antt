pub mod Said
pub mod inner
