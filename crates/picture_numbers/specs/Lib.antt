pub mod Thousandths
