pub mod Positions
pub mod Numbered
pub mod Rooms
