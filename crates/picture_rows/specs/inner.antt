-- Words of inner contracts: what a program finds in a name. No public promise rests on them.
pub mod Found
