pub mod TextLaws
pub mod Cases
