-- Words of inner contracts: the first of several forms. No public promise rests on them.
pub mod First
