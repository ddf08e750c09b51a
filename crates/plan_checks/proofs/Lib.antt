pub mod SegmentLaws
pub mod HeightLaws
