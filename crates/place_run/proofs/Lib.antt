pub mod RefusalLaws
pub mod TakenLaws
pub mod Taken
pub mod Placed
pub mod Summed
