pub mod MiddleLaws
pub mod MoveLaws
pub mod CollectLaws
pub mod SpreadLaws
pub mod KeyLaws
pub mod ShiftLaws
