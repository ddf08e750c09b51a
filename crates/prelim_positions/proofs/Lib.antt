pub mod SideLaws
pub mod PositionLaws
