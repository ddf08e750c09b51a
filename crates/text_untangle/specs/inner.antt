-- Words of inner contracts: which arrays hold what. No public promise rests on them.
pub mod Fronts
pub mod Held
