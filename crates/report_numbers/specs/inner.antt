-- Words of inner contracts: what the arrays hold and what is left in them. No public promise rests on them.
pub mod Words
pub mod Rooms
