pub mod LabelLaws
pub mod SizeLaws
pub mod Lengths
pub mod Within
pub mod Cases
pub mod Accepted
