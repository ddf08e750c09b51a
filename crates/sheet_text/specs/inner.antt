-- Words of inner contracts: what the arrays hold and what the parts of a call promise. No public promise rests on them.
pub mod Read
pub mod Shown
