-- Words of inner contracts: lists in buffers, and a request in buffers. No public promise rests on them.
pub mod Filled
