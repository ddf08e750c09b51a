pub mod LineLaws
pub mod CallLaws
pub mod TurnLaws
