pub mod EscapeLaws
pub mod ColumnLaws
pub mod RowLaws
pub mod Within
pub mod Cases
