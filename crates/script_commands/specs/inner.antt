-- Words of inner contracts: what a command says with what was lent beside it. No public promise rests on them.
pub mod Held
