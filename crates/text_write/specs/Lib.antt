pub mod Again
pub mod inner
