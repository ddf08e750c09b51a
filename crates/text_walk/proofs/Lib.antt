pub mod WalkedLaws
pub mod Cases
