pub mod AfterLaws
pub mod WalkLaws
