-- Words of inner contracts: where a part ends, and a buffer that is being filled. No public promise rests on them.
pub mod Ends
pub mod Puts
