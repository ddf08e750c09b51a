-- Words of inner contracts: what loops keep and which arrays hold what. No public promise rests on them.
pub mod Columns
pub mod Counts
pub mod Offsets
pub mod Sums
