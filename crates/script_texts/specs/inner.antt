-- Words of inner contracts: what stands at a position, and what a text leaves in a buffer. No public promise rests on them.
pub mod Units
