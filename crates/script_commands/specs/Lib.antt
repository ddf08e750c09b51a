pub mod Commands
pub mod Table
pub mod inner
