-- Words of inner contracts: what stands at a position, and which arrays hold what. No public promise rests on them.
pub mod Indexed
