-- Words of inner contracts. No public promise rests on them.
pub mod Replied
