-- Words of inner contracts: what is written of any f64. No public promise rests on them.
pub mod Floats
