-- Words of inner contracts: the only answer of a command in a buffer, and what is laid into a buffer. No public promise rests on them.
pub mod One
pub mod Laid
