-- Words of inner contracts: what loops keep and which arrays hold what. No public promise rests on them.
pub mod Graph
pub mod Levels
pub mod Held
pub mod Distances
