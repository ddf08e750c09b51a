-- Words of inner contracts: the segments over which a walk goes. No public promise rests on them.
pub mod Walks
