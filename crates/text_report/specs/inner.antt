-- Words of inner contracts: a plan with the numbers of a text. No public promise rests on them.
pub mod Numbered
