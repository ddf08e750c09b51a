pub mod NewLaws
pub mod DrawLaws
