pub mod Classes
pub mod Place
pub mod Shift
pub mod Positions
