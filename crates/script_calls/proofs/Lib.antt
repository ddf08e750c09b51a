pub mod ReplyLines
pub mod RunLines
pub mod Commands
