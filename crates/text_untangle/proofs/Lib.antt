pub mod ArrayLaws
pub mod Ways
pub mod TextLaws
