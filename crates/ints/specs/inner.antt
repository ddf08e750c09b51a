-- Words of inner contracts and of laws. No public promise rests on them.
pub mod Members
