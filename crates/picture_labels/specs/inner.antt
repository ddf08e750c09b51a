-- Words of inner contracts: what a box's label is asked for. No public promise rests on them.
pub mod Limits
