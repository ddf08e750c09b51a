pub mod Bytes
pub mod Decimal
pub mod Parser
pub mod Form
pub mod Reading
pub mod Writing
