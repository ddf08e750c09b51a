pub mod Single
pub mod Goes
pub mod Unchanged
pub mod Enough
pub mod LayLaws
pub mod Twice
pub mod Cases
