pub mod ColumnLaws
pub mod Sized
pub mod Fill
pub mod OffsetLaws
pub mod SumLaws
pub mod Beside
pub mod CountLaws
