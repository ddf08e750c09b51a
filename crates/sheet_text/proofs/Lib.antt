pub mod ReadLaws
pub mod Short
pub mod TextLaws
pub mod PlanRead
pub mod BackLaws
