pub mod Cuts
pub mod ValidLaws
pub mod Rooms
pub mod Remembered
pub mod ReadBack
