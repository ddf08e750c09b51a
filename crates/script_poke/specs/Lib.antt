pub mod Poked
