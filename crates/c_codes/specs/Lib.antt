pub mod Code
pub mod Again
pub mod Untangled
pub mod Picture
pub mod Run
pub mod inner
