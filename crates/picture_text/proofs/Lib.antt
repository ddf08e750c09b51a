pub mod TextLaws
pub mod PrintLaws
