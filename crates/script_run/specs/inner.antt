-- Words of inner contracts: what the answers of a command leave in a buffer. No public promise rests on them.
pub mod Laid
