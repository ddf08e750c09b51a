pub mod Levels
pub mod Rows
pub mod SegmentLines
pub mod Texts
pub mod Verdict
pub mod SecondWay
