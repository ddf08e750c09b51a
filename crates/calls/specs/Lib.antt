pub mod Replies
pub mod Step
pub mod Run
pub mod inner
