pub mod ListLaws
pub mod NameLaws
pub mod RequestLaws
pub mod Short
