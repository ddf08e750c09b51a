-- Words of inner contracts: one answer of a command in a buffer. No public promise rests on them.
pub mod One
