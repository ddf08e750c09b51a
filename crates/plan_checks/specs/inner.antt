-- Words of inner contracts: what loops keep and which arrays hold what. No public promise rests on them.
pub mod Heights
