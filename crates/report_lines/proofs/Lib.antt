pub mod Partly
pub mod Boxes
pub mod Listed
pub mod ByNumber
pub mod AllLines
pub mod Printable
pub mod Lengths
pub mod Rooms
