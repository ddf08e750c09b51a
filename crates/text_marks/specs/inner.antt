-- Words of inner contracts: what a draw asks and leaves. No public promise rests on them.
pub mod Drawn
