pub mod DueLaws
pub mod EnterLaws
pub mod Midway
pub mod PassLaws
pub mod VisitLaws
