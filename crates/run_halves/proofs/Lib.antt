pub mod Boxes
pub mod SmallBox
pub mod Middles
pub mod ByHalves
pub mod Given
pub mod Bisect
pub mod Cut
pub mod Small
